pub mod Walked
pub mod Sifted
pub mod Many
