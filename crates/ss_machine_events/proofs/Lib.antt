pub mod Times
pub mod Frozen
pub mod Filing
