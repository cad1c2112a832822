mod Digits
mod Finding
mod Leading
mod Spelling
pub mod Bytes
pub mod Splitting
pub mod Joining
pub mod Reading
pub mod Results
mod Unhexing
