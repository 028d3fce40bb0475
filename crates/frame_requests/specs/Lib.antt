pub mod Frames
pub mod Screen
