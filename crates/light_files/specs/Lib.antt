pub mod Hefts
pub mod Laws
