pub mod OffLanes
pub mod Deliveries
