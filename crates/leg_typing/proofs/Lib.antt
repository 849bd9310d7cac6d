pub mod Appearances
pub mod Claims
pub mod Legs
