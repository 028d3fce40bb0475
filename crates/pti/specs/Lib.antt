pub mod Payload
pub mod Steps
