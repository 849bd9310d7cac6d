pub mod Written
pub mod Marks
pub mod Reducing
