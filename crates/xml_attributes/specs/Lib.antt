pub mod Attributes
pub mod Examples
