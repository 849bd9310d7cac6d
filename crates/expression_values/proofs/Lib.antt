pub mod Dispatch
pub mod Fitting
pub mod Operators
pub mod Places
pub mod Stops
pub mod TwoParts
