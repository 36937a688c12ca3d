pub mod Laws
pub mod Standing
pub mod StoreParts
pub mod StoreState
pub mod Sweeping
