pub mod Listing
pub mod Steps
pub mod Examples
