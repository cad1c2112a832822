pub mod Armed
pub mod Stops
pub mod Torn
pub mod Rows
pub mod Turns
pub mod Laws
