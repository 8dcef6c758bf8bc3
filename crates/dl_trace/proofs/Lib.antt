-- The lemmas of this crate.
pub mod Ways
pub mod Endings
pub mod Overs
pub mod Goings
pub mod Makings
