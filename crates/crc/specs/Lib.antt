pub mod Poly
pub mod Crc
pub mod Register
mod Examples
