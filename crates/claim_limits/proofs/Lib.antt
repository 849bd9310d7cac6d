pub mod Testing
pub mod Parts
