pub mod Faultless
pub mod Kept
pub mod Nodes
pub mod WellTyped
pub mod Records
