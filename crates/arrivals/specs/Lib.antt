pub mod Lanes
pub mod Landing
