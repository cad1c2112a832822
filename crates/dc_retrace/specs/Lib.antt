pub mod Read
pub mod Trails
pub mod Deciding
