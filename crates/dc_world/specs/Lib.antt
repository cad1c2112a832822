pub mod Faults
pub mod Worlds
pub mod Opened
pub mod Openable
pub mod Ended
pub mod Leaving
pub mod Reopened
