pub mod Places
pub mod Reduced
pub mod Sites
pub mod Store
pub mod Listed
