pub mod Items
pub mod Sink
pub mod Source
pub mod Stack
pub mod lemmas
