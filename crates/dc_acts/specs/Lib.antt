pub mod Lines
pub mod Reserved
pub mod Counted
