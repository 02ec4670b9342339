pub mod Locals
pub mod Scopes
pub mod Seen
pub mod Examples
