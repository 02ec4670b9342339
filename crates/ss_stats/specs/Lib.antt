pub mod History
pub mod Summary
pub mod Examples
