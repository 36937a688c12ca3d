pub mod Showing
pub mod Zipped
