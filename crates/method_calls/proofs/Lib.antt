pub mod Called
