pub mod Frame
pub mod Steps
mod Examples
