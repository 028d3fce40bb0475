pub mod Lists
pub mod Places
pub mod Texts
pub mod Laws
