pub mod Stacks
pub mod Enters
pub mod Turning
pub mod Found
pub mod Callable
pub mod Beyond
