pub mod Lists
pub mod Places
pub mod Reading
pub mod Writing
pub mod Entering
pub mod Leaving
