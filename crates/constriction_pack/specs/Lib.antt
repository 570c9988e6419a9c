pub mod Contents
pub mod Faults
pub mod Formats
pub mod Frames
pub mod Matched
pub mod Packed
pub mod Planes
