pub mod Heads
pub mod Expects
