pub mod Exists
pub mod Laws
