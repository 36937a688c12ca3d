pub mod Boxes
pub mod Reasons
