pub mod Tallied
pub mod Taken
