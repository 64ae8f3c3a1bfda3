pub mod Standing
pub mod Takes
pub mod Pushes
pub mod Cuts
pub mod Oldest
