pub mod TwoMethods
pub mod WellTyped
