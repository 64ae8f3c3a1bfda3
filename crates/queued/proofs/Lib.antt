pub mod Queuing
