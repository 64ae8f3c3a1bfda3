pub mod Flights
pub mod Packets
pub mod Counts
pub mod Stays
pub mod Uses
