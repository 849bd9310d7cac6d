pub mod Bodies
pub mod Expects
