pub mod Sequents
pub mod Proofs
