pub mod NoSort
pub mod Deciding
