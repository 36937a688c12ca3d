pub mod Naming
pub mod Standings
pub mod Steps
pub mod Units
