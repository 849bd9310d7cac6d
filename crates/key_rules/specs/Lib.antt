pub mod Codes
pub mod Writing
pub mod Fits
pub mod Depths
pub mod Readers
pub mod Reading
pub mod Laws
pub mod Examples
