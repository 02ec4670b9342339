pub mod CommandLine
pub mod Statuses
pub mod Retrying
pub mod Data
pub mod FailureStatuses
