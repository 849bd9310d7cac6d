pub mod Context
pub mod Forms
