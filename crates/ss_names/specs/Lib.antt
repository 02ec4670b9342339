pub mod Modes
pub mod Entries
pub mod Table
pub mod Filling
pub mod View
