pub mod Spelling
pub mod Comment
pub mod Next
pub mod Scan
pub mod Statement
