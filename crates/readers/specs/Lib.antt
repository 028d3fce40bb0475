pub mod Fields
pub mod Lines
pub mod Cells
pub mod Numeral
pub mod Region
pub mod Catalog
