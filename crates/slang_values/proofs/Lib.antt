pub mod Closed
pub mod Equality
pub mod Numbers
pub mod Records
pub mod Sequences
pub mod Typed
