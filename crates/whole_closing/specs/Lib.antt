pub mod Literals
pub mod Closing
pub mod Laws
