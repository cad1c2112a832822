pub mod Fallen
pub mod Waiting
pub mod Felling
pub mod Begun
pub mod Beginning
pub mod Torn
pub mod Ended
pub mod Powered
pub mod Joined
pub mod Opens
pub mod Partaking
mod Leaves
pub mod Added
pub mod Resumed
pub mod Over
pub mod Attached
pub mod Rereading
pub mod Again
