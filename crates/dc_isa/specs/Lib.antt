pub mod Fields
pub mod Formats
pub mod Table
pub mod Decoded
