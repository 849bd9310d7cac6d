pub mod Beginnings
pub mod Haves
pub mod Turns
pub mod Table
pub mod Purposes
pub mod Opening
pub mod Starts
pub mod Pairs
