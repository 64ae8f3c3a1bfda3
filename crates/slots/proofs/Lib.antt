pub mod Gathered
pub mod Threads
pub mod Copied
