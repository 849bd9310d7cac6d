pub mod Atoms
pub mod Placing
pub mod Inserting
pub mod Summing
pub mod Added
