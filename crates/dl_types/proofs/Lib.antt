-- The lemmas of this crate.
pub mod Answered
pub mod Bodies
pub mod Checking
pub mod Found
pub mod Givens
pub mod ModulesFit
pub mod OperationsFit
pub mod Rows
pub mod StatementsFit
pub mod DeclarationLaws
pub mod OperandLaws
pub mod SimpleLaws
pub mod StatementLaws
pub mod TreeLaws
