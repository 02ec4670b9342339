pub mod Doing
pub mod Ways
pub mod Entered
pub mod Noted
pub mod Worldly
