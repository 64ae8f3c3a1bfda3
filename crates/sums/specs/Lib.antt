pub mod Draws
pub mod Sums
