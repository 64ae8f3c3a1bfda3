pub mod Sends
