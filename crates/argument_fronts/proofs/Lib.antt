pub mod Only
pub mod Fronts
pub mod NumberFronts
pub mod HeadFronts
