pub mod Declarations
pub mod Earliest
pub mod Examples
pub mod NameTable
pub use Rattle.ss_base.specs.Spellings
