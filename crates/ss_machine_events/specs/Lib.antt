pub mod Scheduled
pub mod Events
