pub mod Entries
pub mod Walked
