pub mod Cuts
pub mod Calls
pub mod Tellings
