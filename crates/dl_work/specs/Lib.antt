pub mod Draws
pub mod Summary
pub mod Works
