pub mod Bit
pub mod ByContext
pub mod Categorical
pub mod LastSymbols
pub mod Pair
pub mod UniformBits
