-- What contracts on scheduled runs speak of.
pub mod Lines
pub mod Runs
pub mod Left
pub mod Laws
pub mod Ran
pub mod Going
