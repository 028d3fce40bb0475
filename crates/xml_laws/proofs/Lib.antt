pub mod Values
pub mod Attributes
pub mod Tags
pub mod Document
pub mod Lines
pub mod Body
pub mod Plain
pub mod RoundTrip
