pub mod Headers
pub mod Layers
pub mod Numbered
