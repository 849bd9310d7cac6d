pub mod ReadConstants
pub mod Turns
