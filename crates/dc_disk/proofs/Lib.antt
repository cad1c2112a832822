mod Logged
mod Logs
pub mod Rereadable
mod Rereading
