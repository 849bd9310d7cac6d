pub mod Joined
pub mod Tested
