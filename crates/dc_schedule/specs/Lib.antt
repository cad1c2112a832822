pub mod Entries
pub mod Schedules
pub mod Generated
