pub mod Answers
pub mod private
