pub mod Events
pub mod Landing
pub mod Laws
pub mod LogBook
pub mod LogParts
pub mod Makers
pub mod Seats
pub mod Trading
