pub mod Wide
pub mod ExpressionStops
pub mod ClaimStops
pub mod Laws
pub mod Examples
