pub mod BothEnds
pub mod EncoderRows
pub mod Hashed
