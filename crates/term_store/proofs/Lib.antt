pub mod Stores
pub mod Measures
pub mod Whole
pub mod Gains
pub mod Held
