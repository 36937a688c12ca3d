pub mod Choosing
pub mod Finding
pub mod Leading
pub mod Raising
pub mod Shuffling
