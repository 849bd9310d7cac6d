pub mod Forms
pub mod Joining
pub mod Places
pub mod SumLemmas
