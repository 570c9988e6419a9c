pub mod CoderError
pub mod ReadWriteError
pub mod Rewinding
pub mod lemmas
