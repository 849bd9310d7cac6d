pub mod Prover
