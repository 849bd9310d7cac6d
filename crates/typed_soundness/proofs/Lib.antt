pub mod Typed
pub mod Related
pub mod Codes
pub mod Methods
pub mod Examples
