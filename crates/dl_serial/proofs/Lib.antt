mod Counts
mod Covering
mod Lawful
mod Lawfulness
pub mod Laws
mod Levels
mod Lines
pub mod Listed
mod Modules
mod Pools
mod Refusing
mod Returns
mod Rising
mod RootNumbers
mod Sizes
mod Turns
