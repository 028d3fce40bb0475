pub mod Laws
pub mod Decoded
