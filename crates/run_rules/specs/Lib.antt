pub mod Values
pub mod Evaluation
pub mod Runs
pub mod Reach
pub mod Laws
pub mod Examples
