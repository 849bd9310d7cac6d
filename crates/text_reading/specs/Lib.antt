pub mod Limits
pub mod Gauge
pub mod Reading
pub mod Inputs
pub mod Texts
pub mod Files
pub mod Ends
