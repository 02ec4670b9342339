pub mod Numerals
pub mod Nearest
pub mod Pictures
pub mod Suited
pub mod MaximalRuns
pub mod Fields
pub mod Sending
pub mod Examples
