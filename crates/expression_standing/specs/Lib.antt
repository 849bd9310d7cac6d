pub mod Account
pub mod Hefts
