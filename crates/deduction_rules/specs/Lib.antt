pub mod Step
pub mod Replacement
pub mod Rules
pub mod Deduction
pub mod Laws
