pub mod Lengths
pub mod Children
pub mod Bounds
mod Budget
pub mod Sums
pub mod Slots
pub mod Wanting
pub mod Modes
pub mod Rows
