pub mod Only
pub mod Cursor
pub mod Types
pub mod Numbers
pub mod Heads
