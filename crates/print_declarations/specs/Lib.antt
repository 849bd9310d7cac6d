pub mod Bare
pub mod Accounts
pub mod Laws
