pub mod Applied
pub mod Drawing
mod Fields
mod Found
mod Meaning
mod Numbering
pub mod Passing
mod Thinned
