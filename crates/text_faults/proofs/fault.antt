pub mod Laws
pub mod Honest
