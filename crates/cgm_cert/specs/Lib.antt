pub mod Fault
pub mod Printable
pub mod Spelling
pub mod Words
