pub mod WorkedOut
pub mod OpenedOnce
pub mod BothSides
