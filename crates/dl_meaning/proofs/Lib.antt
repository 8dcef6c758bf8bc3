pub mod First
mod Heaps
pub mod Kept
pub mod Left
mod One
mod Settled
pub mod Sound
mod Total
pub mod Turns
mod Values
