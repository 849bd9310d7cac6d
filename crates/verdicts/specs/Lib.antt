pub mod Choice
pub mod Laws
pub mod Texts
pub mod Reports
