pub mod Totals
pub mod Steps
pub mod Runs
