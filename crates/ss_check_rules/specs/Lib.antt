pub mod Order
pub mod Kinds
pub mod Modes
pub mod Counts
pub mod Refusal
pub mod Examples
