pub mod HeadFronts
