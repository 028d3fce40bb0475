pub mod TidiedText
pub mod Laws
pub mod Decoding
