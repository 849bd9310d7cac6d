pub mod Fronts
pub mod Numerals
pub mod Probes
pub mod Stopped
