pub mod Answers
pub mod Choice
pub mod Lines
pub mod Print
pub mod Sides
