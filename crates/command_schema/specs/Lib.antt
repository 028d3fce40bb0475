pub mod Heads
pub mod Gathered
pub mod Loaded
