pub mod Extending
pub mod Items
pub mod KnownLength
pub mod Sink
pub mod Source
pub mod Stack
