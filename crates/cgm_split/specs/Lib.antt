pub mod Drawing
pub mod Halving
pub mod Preferring
pub mod Weighing
