pub mod Played
pub mod Records
pub mod Differences
pub mod Findings
pub mod Compared
