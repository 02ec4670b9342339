mod Common
pub use Rattle.ss_records_entities.proofs.Same
pub use Rattle.ss_records_words.proofs.Splice
pub mod Calls
pub mod OneCall
pub mod Running
pub mod Outcomes
