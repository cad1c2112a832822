pub mod Files
pub mod Images
pub mod Filling
pub mod Faults
pub mod Loaded
