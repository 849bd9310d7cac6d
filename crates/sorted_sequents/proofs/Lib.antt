pub mod Fits
pub mod Typed
pub mod Kept
pub mod Rounds
pub mod Sorted
