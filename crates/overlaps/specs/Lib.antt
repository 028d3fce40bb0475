pub mod Overlaps
pub mod Answers
pub mod Read
pub mod Calls
mod Examples
