pub mod Naming
pub mod Owning
pub mod Laws
pub mod Listings
