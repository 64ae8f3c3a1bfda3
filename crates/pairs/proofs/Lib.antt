pub mod ClosedWalks
pub mod Filling
pub mod BadLinks
