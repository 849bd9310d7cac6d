pub mod Judging
pub mod Table
