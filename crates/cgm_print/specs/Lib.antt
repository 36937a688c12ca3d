pub mod Canonical
pub mod Printing
pub mod Statements
pub mod Written
