pub mod Moved
pub mod Blocks
pub mod Reorder
pub mod Sorted
mod Examples
