pub mod Nodes
pub mod Reading
pub mod Sizes
pub mod Truth
pub mod formers
