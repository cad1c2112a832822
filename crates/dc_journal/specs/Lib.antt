pub mod Texts
pub mod Pieces
