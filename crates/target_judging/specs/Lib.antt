pub mod MayBeNamed
pub mod Otherwise
