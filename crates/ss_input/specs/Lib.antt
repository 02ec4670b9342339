pub mod Blocks
pub mod Words
pub mod Sources
pub mod Numbers
pub mod Inputs
