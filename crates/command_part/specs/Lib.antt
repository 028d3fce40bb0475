pub mod Part
mod Examples
