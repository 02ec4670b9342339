pub mod Rows
pub mod Holding
