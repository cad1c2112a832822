pub mod Counts
pub mod Naming
pub mod Passes
pub mod Loads
pub mod Single
