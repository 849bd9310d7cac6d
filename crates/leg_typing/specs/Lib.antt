pub mod OverNames
pub mod Laws
