pub mod FirstBytes
pub mod Blanks
pub mod Cuts
pub mod Next
