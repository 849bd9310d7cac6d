pub mod Cut
pub mod Inequality
pub mod Same
pub mod Step
pub mod Sum
