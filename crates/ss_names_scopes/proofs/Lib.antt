mod Entering
pub mod Finding
