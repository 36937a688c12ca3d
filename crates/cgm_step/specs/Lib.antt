pub mod Indexing
pub mod Naming
pub mod Outcome
pub mod Touching
