pub mod Variables
pub mod Fields
pub mod Nodes
