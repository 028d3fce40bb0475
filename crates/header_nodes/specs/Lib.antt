pub mod Fields
pub mod Answer
mod Examples
