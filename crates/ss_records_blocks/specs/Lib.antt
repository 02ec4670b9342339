pub mod Cells
pub mod Links
pub mod Ownership
pub mod Pages
pub mod Places
pub mod Writes
