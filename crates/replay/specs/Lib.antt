pub mod ChunkLines
pub mod Chunks
pub mod Plays
pub mod Runs
pub mod Texts
