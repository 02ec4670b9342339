mod Common
mod Rows
pub mod EarliestBreach
pub mod Entries
