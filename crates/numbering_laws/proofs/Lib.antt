pub mod Places
pub mod SameNames
pub mod Values
pub mod RecordOrder
pub mod RecordNumbers
pub mod Claims
pub mod Passing
