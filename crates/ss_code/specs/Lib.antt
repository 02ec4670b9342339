pub mod Limits
pub mod Running
pub mod Sections
pub mod Sifted
