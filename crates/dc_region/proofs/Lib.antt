pub mod Memory
pub mod Cells
pub mod Sharing
