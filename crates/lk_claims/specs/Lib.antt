pub mod Claim
pub mod Shape
pub mod Step
