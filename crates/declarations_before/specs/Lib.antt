pub mod Before
pub mod IsBefore
