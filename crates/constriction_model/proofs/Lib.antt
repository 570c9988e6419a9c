mod AnswerLemmas
pub mod Differences
pub mod Digits
pub mod Finding
pub mod Halving
pub mod StepLemmas
mod SymbolLemmas
mod UniformLemmas
