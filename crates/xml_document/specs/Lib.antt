pub mod Document
pub mod Steps
pub mod Examples
