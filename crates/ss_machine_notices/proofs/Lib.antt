mod Common
pub mod Giving
pub mod Notices
pub mod Times
pub mod Receiving
pub mod Beginning
pub mod Begun
pub mod Opening
pub mod Framing
pub mod Started
