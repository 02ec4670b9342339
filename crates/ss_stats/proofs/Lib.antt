pub mod Noting
pub mod Products
