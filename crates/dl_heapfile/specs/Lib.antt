pub mod Names
pub mod Lines
pub mod Reading
pub mod Form
pub mod Faults
pub mod Blanks
pub mod Laws
