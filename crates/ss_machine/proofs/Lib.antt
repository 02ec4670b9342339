mod Common
mod Known
mod Fields
mod Items
pub mod Inputs
pub mod Joining
mod Likeness
pub mod Reaching
mod Stepping
mod Worded
mod Written
mod Sending
mod Trading
mod Walking
mod Arms
mod Sifting
mod Counting
mod Ending
mod Turning
mod Resting
mod Rising
mod Laying
mod Leads
pub mod Starting
mod Resuming
mod Readiness
mod Unchanged
