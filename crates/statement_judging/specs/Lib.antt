pub mod Sizes
pub mod Keeps
pub mod Judged
pub mod Declaration
