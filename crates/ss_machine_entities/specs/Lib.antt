pub use Rattle.ss_records.specs.State
pub mod Counts
