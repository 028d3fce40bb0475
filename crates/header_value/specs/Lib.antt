pub mod Fields
pub mod Lookup
pub mod Answer
