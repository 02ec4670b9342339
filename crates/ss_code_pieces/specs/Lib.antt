pub mod Preamble
pub mod Lined
pub mod Plain
