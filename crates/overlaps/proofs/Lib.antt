pub mod Alike
pub mod Forks
pub mod Values
pub mod Apart
pub mod Orders
pub mod Laws
