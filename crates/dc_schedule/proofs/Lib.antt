pub mod Drawing
pub mod Fields
pub mod Entering
pub mod Written
pub mod Again
