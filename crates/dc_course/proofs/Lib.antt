pub mod Arming
mod Steps
mod Promised
mod Still
mod Partaking
mod Breaking
mod Counting
mod Between
mod Ups
mod Whole
mod Tracing
pub mod Onward
pub mod Within
pub mod Journaling
