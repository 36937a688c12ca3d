pub mod Agreement
pub mod Content
pub mod Ending
pub mod Flaws
pub mod Folder
