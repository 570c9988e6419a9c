pub mod Answering
pub mod Collecting
pub mod NumberWords
pub mod Parts
pub mod Reading
