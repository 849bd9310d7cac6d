pub mod Lists
pub mod Numbers
pub mod Order
pub mod Tables
pub mod Within
