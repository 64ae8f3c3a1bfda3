pub mod Remade
pub mod Filled
pub mod Openings
pub mod OneOutcome
pub mod Runs
pub mod Stated
