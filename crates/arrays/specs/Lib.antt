pub mod View
pub mod Flight
pub mod Told
