pub mod Rooms
pub mod Sides
pub mod Steps
pub mod Tables
pub mod Grown
pub mod AtomPlaces
