pub mod Instanced
