-- The lemmas of this crate.
mod Checked
pub mod CodesOf
mod Late
mod Latest
mod Matched
pub mod Moved
mod Paths
pub mod PlainJumps
pub mod PlainSteps
mod Refuted
pub mod Rising
mod SameLists
pub mod Operands
pub mod Patches
