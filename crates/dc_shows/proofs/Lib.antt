pub mod Lists
mod Steps
mod Guests
mod Worlds
pub mod Passes
