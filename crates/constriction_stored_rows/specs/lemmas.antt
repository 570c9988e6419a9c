pub mod Stored
pub mod StoredRows
pub mod SymbolRows
