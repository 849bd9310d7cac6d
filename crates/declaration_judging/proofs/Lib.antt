pub mod Behind
pub mod Standing
