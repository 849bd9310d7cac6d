pub mod Denied
pub mod Places
