pub mod Counting
pub mod Refiled
mod Living
mod Walking
