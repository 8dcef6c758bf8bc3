pub mod Fitting
pub mod FirstStates
pub mod OneOutcome
pub mod Operations
pub mod Single
pub mod Values
