-- The lemmas of this crate.
pub mod WordCuts
pub mod Numbers
pub mod CallSteps
pub mod CallsAreOf
pub mod RuleLemmas
pub mod RuleLaws
