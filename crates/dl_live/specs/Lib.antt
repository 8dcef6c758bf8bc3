-- What contracts on early drops speak of.
pub mod Dropped
pub mod DroppedLaws
pub mod Marks
