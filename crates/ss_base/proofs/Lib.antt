pub mod Capitals
pub mod Rooms
pub mod Texts
pub mod Given
pub mod Whole
