pub mod Numbered
pub mod Firsts
pub mod Fields
pub mod Insides
pub mod Tables
pub mod Ascending
pub mod Tested
