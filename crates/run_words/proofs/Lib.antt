pub mod ArgumentLaws
pub mod CountLaws
pub mod RunLaws
