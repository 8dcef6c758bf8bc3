-- What contracts on schedule files speak of.
pub mod Rules
pub mod Reading
