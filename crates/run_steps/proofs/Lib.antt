pub mod Values
pub mod Methods
pub mod Begins
pub mod Enters
