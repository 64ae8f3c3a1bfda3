pub mod Chunks
pub mod ChunkLines
pub mod Tails
pub mod Played
pub mod Running
pub mod Whole
pub mod OneOutcome
pub mod Within
