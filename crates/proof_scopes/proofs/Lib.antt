pub mod SymbolSets
pub mod Scopes
pub mod Labels
