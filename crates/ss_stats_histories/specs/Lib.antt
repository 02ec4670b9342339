pub use Rattle.ss_meaning.specs.Histories
pub use Rattle.ss_meaning.specs.Statistics
pub use Rattle.ss_meaning.specs.Store
pub use Rattle.ss_meaning.specs.Values
pub mod Records
pub mod Places
pub mod Each
