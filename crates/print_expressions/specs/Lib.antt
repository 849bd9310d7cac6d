pub mod Bare
pub mod Operators
pub mod Hefts
pub mod Accounts
pub mod Laws
