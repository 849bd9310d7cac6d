pub mod Ends
pub mod Machines
pub mod Advances
pub mod Laws
