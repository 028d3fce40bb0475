pub mod Entries
pub mod Answers
mod Members
mod Groups
