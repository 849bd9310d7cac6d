pub mod Projects
pub mod Texts
pub mod Reports
pub mod Laws
