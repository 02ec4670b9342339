mod Common
pub mod Lists
pub mod Orders
pub mod Statistics
pub mod Clauses
pub mod Forms
pub mod WholePreambles
pub mod ProgramLaws
pub mod Whole
