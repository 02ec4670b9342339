mod Common
pub mod Fronts
mod Meanings
mod Inputs
mod Handing
mod Headline
mod Sessions
mod Ticks
mod Running
mod LastRun
mod Cuts
