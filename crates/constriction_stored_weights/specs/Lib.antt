pub mod Bits
pub mod StoredWeights
pub mod Tables
pub mod private
