-- What contracts on operation files speak of.
pub mod Line
pub mod Rules
pub mod Calls
