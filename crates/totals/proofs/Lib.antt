pub mod Sums
pub mod Keys
pub mod Laws
pub mod Runs
pub mod Whole
