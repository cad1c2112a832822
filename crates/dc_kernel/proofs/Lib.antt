pub mod Parts
pub mod Slots
pub mod Written
pub mod Read
pub mod Entries
pub mod Kernels
pub mod Logged
