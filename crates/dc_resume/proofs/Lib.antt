mod Records
mod Receipts
pub mod Reaching
mod Deciding
mod Testing
mod Absent
pub mod Resuming
pub mod Halting
pub mod Alike
pub mod Numbered
pub mod Shared
pub mod Added
pub mod Telling
pub mod Scenario
