pub mod Says
pub mod Laws
pub mod Room
pub mod OneRow
