pub mod Depths
pub mod Weights
pub mod Sites
pub mod Steps
pub mod Enough
