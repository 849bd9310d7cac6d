pub mod Covered
pub mod Whole
