pub mod Verified
pub mod Examples
