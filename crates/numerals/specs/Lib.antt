pub mod Numerals
pub mod Numbers
pub mod Examples
