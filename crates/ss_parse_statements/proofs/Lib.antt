mod Common
pub mod Pictures
pub mod FirstWords
pub mod StatementParts
pub mod SimpleLaws
pub mod Beginnings
pub mod NestedStatements
pub mod Levels
