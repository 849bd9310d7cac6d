pub mod Places
pub mod NumberedLines
