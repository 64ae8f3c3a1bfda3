pub mod Runs
pub mod NodeList
pub mod HeaderRead
pub mod HeaderWritten
pub mod OneOutcome
