-- What the contracts of `header_walk` cite.
pub mod Walk
pub mod Steps
mod Examples
