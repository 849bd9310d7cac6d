pub mod Store
pub mod Inside
pub mod Sequent
pub mod Laws
