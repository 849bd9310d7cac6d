pub mod Places
pub mod Orders
pub mod Closed
pub mod Walks
