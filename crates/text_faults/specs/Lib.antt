pub mod Fault
pub mod Examples
pub mod Form
pub mod Advice
pub mod Placement
