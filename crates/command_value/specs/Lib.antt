pub mod Params
pub mod Lookup
pub mod Answer
