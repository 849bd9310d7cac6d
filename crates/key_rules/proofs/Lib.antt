pub mod Numbers
pub mod Readers
pub mod Claims
pub mod Steps
pub mod Lengths
pub mod Keys
pub mod Examples
