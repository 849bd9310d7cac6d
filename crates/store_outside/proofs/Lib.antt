pub mod ByShape
pub mod Kept
