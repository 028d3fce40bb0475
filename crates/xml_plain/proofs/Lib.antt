pub mod Values
pub mod Lines
pub mod Owners
pub mod Plain
