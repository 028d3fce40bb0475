pub mod Sorting
mod Examples
