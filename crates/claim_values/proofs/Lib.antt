pub mod Bodies
pub mod Dispatch
pub mod Places
pub mod Outside
pub mod Steps
