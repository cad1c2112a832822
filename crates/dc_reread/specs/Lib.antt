pub mod Faults
pub mod Loaded
pub mod Pasts
pub mod Reread
