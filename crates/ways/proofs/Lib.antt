pub mod Chains
pub mod Doors
pub mod OneOutcome
