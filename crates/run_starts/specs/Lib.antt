pub mod Methods
pub mod Constants
