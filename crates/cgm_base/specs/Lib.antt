pub mod Order
pub mod Place
pub mod Printed
pub mod Status
pub mod Words
