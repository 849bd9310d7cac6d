pub mod Low
pub mod Projects
