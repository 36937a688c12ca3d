pub mod Driving
pub mod Sizes
