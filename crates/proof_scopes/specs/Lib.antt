pub mod Scope
pub mod Citing
