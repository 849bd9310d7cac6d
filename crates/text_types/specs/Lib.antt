pub mod TextType
pub mod Found
