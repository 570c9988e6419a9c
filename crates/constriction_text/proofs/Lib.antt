mod Accepting
mod Cutting
pub mod Exactly
mod LineReading
mod Numbers
mod OneAnswer
mod RowTexts
mod Separating
mod Writing
