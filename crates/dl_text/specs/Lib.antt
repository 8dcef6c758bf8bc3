pub mod Bytes
pub mod Text
pub mod Scan
pub mod Writing
pub mod Lists
