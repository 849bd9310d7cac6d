pub mod Alike
pub mod Depths
pub mod Openings
pub mod Gathered
pub mod Lacking
