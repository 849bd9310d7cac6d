pub mod Form
pub mod Place
