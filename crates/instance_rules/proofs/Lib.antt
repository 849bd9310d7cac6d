pub mod Examples
pub mod Opening
pub mod Instancing
pub mod Ending
