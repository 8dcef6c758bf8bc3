pub mod Sights
pub mod Openings
pub mod Turn
pub mod Marks
pub mod Passes
pub mod Ends
pub mod Going
pub mod Lone
