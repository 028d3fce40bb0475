pub mod Spelling
pub mod Examples
