pub mod Read
pub mod Choose
