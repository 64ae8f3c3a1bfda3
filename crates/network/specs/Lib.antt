pub mod View
pub mod Opening
pub mod Calls
pub mod Runs
