pub mod Meanings
pub mod Fits
