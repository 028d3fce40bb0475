pub mod Display
pub mod Examples
