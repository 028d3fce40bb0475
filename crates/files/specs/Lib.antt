pub mod Input
pub mod Folder
pub mod Accepted
pub mod Capture
pub mod Append
pub mod CaptureLine
