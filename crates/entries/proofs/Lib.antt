pub mod KnownKinds
pub mod EventRead
pub mod Stores
pub mod EventWritten
pub mod OneOutcome
