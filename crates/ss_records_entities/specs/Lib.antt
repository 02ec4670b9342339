pub mod Attributes
pub mod Classed
pub mod Looked
pub mod Parts
pub mod Passing
pub mod Skimming
