pub mod Laws
mod Tables
pub mod Frame
pub mod Command
