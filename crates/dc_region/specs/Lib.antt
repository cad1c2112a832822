pub mod Block
pub mod Ownership
pub mod Cells
