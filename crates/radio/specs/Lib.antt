pub mod Speed
pub mod Beam
