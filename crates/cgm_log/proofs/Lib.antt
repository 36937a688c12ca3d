pub mod Adding
pub mod Landings
pub mod LaterLandings
pub mod Makers
pub mod Placed
pub mod Printing
