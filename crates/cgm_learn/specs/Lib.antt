pub mod Grounds
pub mod Learning
pub mod Terms
pub mod Walking
