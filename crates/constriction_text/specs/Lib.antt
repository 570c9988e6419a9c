pub mod Grammar
pub mod Runs
pub mod Text
pub mod Words
pub mod private
