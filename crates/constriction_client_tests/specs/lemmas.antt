pub mod HeldSymbolTables
