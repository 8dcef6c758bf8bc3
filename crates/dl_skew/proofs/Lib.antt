mod Heaps
mod Plain
mod Reading
mod Scanning
mod Typing
