pub mod ByModel
pub mod ByNumber
pub mod Partials
pub mod Reading
pub mod Walking
