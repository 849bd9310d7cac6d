pub mod ReadBodies
pub mod ReadParams
