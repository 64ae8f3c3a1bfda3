pub mod Masks
pub mod Joining
pub mod Splitting
pub mod Stores
pub mod OneOutcome
