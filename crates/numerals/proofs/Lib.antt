pub mod Laws
pub mod Decimals
pub mod Worth
pub mod Shown
