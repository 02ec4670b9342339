mod Places
pub mod Refused
pub mod Made
