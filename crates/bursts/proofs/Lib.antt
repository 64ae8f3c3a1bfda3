pub mod InFlight
pub mod OneOutcome
pub mod Stated
