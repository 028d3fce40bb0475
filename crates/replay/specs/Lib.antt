pub mod Input
pub mod Serve
