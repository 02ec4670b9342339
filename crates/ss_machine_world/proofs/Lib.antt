mod Common
pub mod Changing
pub mod Said
pub mod Starting
pub mod Leaving
pub mod Reading
pub mod Noting
pub mod Ruling
pub mod Figured
pub mod Composing
