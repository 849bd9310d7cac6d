pub mod Parts
pub mod Methods
pub mod Back
