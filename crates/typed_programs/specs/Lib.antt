pub mod Parts
pub mod Scopes
pub mod WellTyped
pub mod OneProof
pub mod Examples
