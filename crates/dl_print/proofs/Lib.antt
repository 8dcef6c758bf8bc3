mod Apart
mod Neighbours
mod Parts
pub mod Scanning
mod Steps
mod Versions
