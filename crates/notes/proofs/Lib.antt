pub mod Bursts
pub mod Refusals
