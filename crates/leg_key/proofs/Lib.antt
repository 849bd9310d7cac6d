pub mod Joining
pub mod Sizes
pub mod Decoded
pub mod Fitting
