pub mod Tables
pub mod Reaching
pub mod Counting
pub mod Allowed
