pub mod LookupLaws
pub mod Laws
