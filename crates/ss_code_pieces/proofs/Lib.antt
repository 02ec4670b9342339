pub mod Leafs
pub mod Steps
pub mod Calculated
