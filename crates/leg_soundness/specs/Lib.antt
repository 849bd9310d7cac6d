pub mod Passing
pub mod Scopes
pub mod Laws
