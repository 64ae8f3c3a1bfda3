pub mod Tallies
pub mod Ways
pub mod Sounds
