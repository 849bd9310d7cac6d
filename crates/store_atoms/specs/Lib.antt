pub mod Atoms
pub mod Numbered
pub mod Systems
pub mod Views
