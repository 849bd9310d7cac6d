pub mod Members
pub mod Projects
