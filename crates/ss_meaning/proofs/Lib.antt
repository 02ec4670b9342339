mod Common
pub mod Fine
pub mod Lists
pub mod Heaps
pub mod Filings
pub mod Kept
pub mod Stores
pub mod Entities
pub mod Sets
pub mod Events
pub mod Expressions
pub mod Parts
pub mod Statements
pub mod Whole
