pub mod Answer
mod Examples
