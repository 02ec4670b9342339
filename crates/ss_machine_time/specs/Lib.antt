pub use Rattle.ss_stats_histories.specs.Places
pub use Rattle.ss_stats_histories.specs.Records
pub use Rattle.ss_stats_histories.specs.declared.unnoted.Unnoted
pub mod Times
pub mod Figures
