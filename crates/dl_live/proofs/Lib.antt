-- The lemmas of this crate.
pub mod Added
pub mod Blocks
pub mod Codes
pub mod Lives
pub mod Marked
pub mod One
pub mod Pieces
pub mod Tables
