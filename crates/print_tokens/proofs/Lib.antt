pub mod Bare
pub mod Names
pub mod Weight
pub mod Whole
