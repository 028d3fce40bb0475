pub mod Sums
pub mod Products
pub mod Division
pub mod Register
pub mod Meaning
pub mod TableLaws
pub mod Laws
