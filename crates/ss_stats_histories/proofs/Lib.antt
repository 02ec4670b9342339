mod Common
pub mod Values
mod Rising
mod Apart
pub mod Tables
pub mod Places
pub mod Columns
pub mod Fullness
pub mod Noted
pub mod Bare
pub mod Unstarted
pub mod OnePlace
