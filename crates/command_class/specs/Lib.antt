pub mod Definition
pub mod Find
pub mod Print
pub mod Limits
