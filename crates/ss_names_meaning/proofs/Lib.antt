pub mod Each
pub mod Steps
mod EachThat
pub mod Numbers
