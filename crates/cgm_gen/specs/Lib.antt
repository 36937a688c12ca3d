pub mod Draws
pub mod GeneratedModel
pub mod GeneratedText
pub mod Laws
pub mod Realized
