pub mod Canonical
pub mod Levels
pub mod Operands
pub mod Tokens
