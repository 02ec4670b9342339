mod Common
pub mod Items
mod NameTable
pub mod Kept
mod Known
mod Classes
mod Variables
mod Attributes
pub mod Steps
pub mod Parts
mod Meanings
pub mod Each
mod Names
pub mod Unbroken
pub mod Sources
mod Limits
mod Owners
pub mod Results
mod Layouts
mod Keys
mod Statistics
mod Typed
mod Bodies
mod Locals
mod Parameters
pub mod Routines
