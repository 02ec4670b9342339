mod Common
mod Wanting
pub mod Asked
pub mod Digits
pub mod Failures
pub mod Gaps
pub mod Passages
pub mod Reached
pub mod BufferedNumber
