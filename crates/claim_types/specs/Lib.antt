pub mod Judged
pub mod Views
pub mod Laws
