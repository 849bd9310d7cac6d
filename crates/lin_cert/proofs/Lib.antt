pub mod Derivations
pub mod Places
pub mod Soundness
