pub mod Laws
pub mod Heads
pub mod Sizes
pub mod Gathering
pub mod Resolving
pub mod Loading
pub mod Told
