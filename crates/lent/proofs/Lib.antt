pub mod InPlace
pub mod OneOutcome
