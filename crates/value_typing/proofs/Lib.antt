pub mod Faultless
pub mod Kept
pub mod Closed
pub mod Nodes
pub mod WellTyped
pub mod Records
