pub mod Sizes
pub mod Adds
pub mod Forms
