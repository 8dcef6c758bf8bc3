-- What contracts on codes speak of.
pub mod Code
pub mod Drops
pub mod DropsLaws
pub mod Matching
pub mod Paths
pub mod Shown
pub mod Jumps
pub mod Listing
