pub mod Reduced
pub mod Reads
pub mod Some
pub mod Laws
