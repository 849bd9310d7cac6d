pub mod Sides
pub mod Statements
