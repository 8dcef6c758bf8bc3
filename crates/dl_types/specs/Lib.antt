-- What contracts on names and types speak of.
pub mod Checks
pub mod DeclarationRules
pub mod Declarations
pub mod Limits
pub mod Names
pub mod Rules
pub mod StatementRules
pub mod Statements
pub mod Typing
