pub mod Suited
pub mod Parts
pub mod Deciding
