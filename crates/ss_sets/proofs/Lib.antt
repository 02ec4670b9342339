mod Common
pub mod Walking
pub mod Ranked
mod Keys
