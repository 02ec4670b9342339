pub mod Order
pub mod Rules
pub mod Once
pub mod Keys
pub mod Broken
pub mod Examples
