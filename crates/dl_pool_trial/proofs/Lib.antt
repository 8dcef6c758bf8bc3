pub mod Taken
pub mod Conditions
pub mod Adding
