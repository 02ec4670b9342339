pub mod Uses
pub mod Examples
