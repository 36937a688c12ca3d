pub mod CoreParts
pub mod Laws
pub mod Stops
