pub mod Bytes
pub mod Stores
pub mod Arithmetic
pub mod Access
pub mod Machine
