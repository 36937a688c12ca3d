pub mod Making
pub mod Sweeping
