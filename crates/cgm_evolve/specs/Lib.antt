pub mod Costs
pub mod Index
pub mod Line
pub mod Pairs
pub mod Progress
pub mod Text
