mod Chaining
mod ComingBack
mod ItemWriting
mod Places
mod Rebuilding
pub mod Replying
mod Returning
pub mod Running
mod Stepping
mod WordReading
