pub mod Kept
pub mod Laid
pub mod Links
pub mod Places
pub mod Plans
pub mod Reading
pub mod Shape
pub mod Slotted
