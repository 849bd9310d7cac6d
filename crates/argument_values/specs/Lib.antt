pub mod Consts
pub mod Members
