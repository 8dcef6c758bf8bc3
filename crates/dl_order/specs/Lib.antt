pub mod Lengths
pub mod Serial
pub mod Measure
pub mod Ends
pub mod OneCaller
pub mod Found
pub mod Example
