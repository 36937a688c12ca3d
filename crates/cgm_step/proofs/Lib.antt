pub mod Accepted
pub mod KeptValues
pub mod Names
pub mod States
pub mod Testing
pub mod Touching
