pub mod Giving
pub mod Beginning
