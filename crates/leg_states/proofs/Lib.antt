pub mod Lists
pub mod Vecs
pub mod States
pub mod Names
pub mod Begun
pub mod Taken
