pub mod Lining
pub mod Forming
pub mod Differing
pub mod Written
pub mod Laws
