pub mod Field
pub mod Lengths
pub mod Param
pub mod Walk
pub mod Rows
pub mod Sum
pub mod Limits
