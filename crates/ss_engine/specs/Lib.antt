pub mod Refusals
pub mod Accepting
pub mod Laws
pub mod Sessions
pub mod Headline
pub mod LastRun
pub mod Cuts
pub mod Outcomes
