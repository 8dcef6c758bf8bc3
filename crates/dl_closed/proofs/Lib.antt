pub mod Statements
pub mod Settled
pub mod Histories
