pub mod Below
pub mod Parts
pub mod Loops
pub mod Searches
pub mod Ends
pub mod Leaving
