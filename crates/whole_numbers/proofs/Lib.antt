pub mod Divisors
pub mod Floors
pub mod Products
pub mod Truncation
