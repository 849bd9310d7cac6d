pub mod Kinds
pub mod Laid
pub mod Laws
