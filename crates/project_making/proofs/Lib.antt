pub mod Behind
pub mod Adding
pub mod Single
pub mod Whole
