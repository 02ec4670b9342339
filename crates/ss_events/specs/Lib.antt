pub mod Sifting
pub mod InOrder
pub mod Calls
