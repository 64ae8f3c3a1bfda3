pub mod Codes
pub mod Lines
