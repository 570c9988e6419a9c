pub mod Cloned
pub mod Filling
pub mod Given
pub mod Reading
