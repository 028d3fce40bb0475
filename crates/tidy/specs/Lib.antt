pub mod Tidy
pub mod Examples
