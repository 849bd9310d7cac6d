pub mod Expects
pub mod Heads
