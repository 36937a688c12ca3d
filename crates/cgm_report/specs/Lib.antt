pub mod Answers
pub mod Laws
pub mod Report
pub mod Shown
