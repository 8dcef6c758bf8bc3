pub mod Faults
pub mod Source
pub mod Taken
pub mod Files
pub mod Memory
pub mod Real
