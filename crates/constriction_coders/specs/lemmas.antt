pub mod Bytes
pub mod EncodedWords
pub mod ModelWords
pub mod Stack
