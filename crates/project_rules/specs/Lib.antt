pub mod Constants
pub mod Projects
