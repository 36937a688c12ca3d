pub mod EventLists
pub mod Rests
