pub mod Pending
pub mod Decimals
pub mod Over
pub mod DigitRows
pub mod Halves
