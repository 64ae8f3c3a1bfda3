pub mod Call
