mod Listing
mod Pieces
pub mod Members
pub mod LineTexts
pub mod JournalTexts
