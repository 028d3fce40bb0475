pub mod Judge
pub mod Write
pub mod Steps
