-- The lemmas of this crate.
pub mod Digits
pub mod Steps
pub mod RuleLaws
