pub mod Found
mod Kept
