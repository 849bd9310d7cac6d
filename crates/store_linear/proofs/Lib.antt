pub mod Kept
pub mod Alone
