pub mod Counts
pub mod Entries
pub mod Maps
pub mod Places
pub mod Sorted
pub mod Tests
