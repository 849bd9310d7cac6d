pub mod Numerals
pub mod Rows
pub mod Back
pub mod Places
pub mod Shortest
