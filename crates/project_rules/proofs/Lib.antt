pub mod Constants
pub mod Methods
pub mod Spaces
pub mod Projects
