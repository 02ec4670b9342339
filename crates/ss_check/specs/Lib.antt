pub use Rattle.ss_check_laws.specs.ProgramLaws
pub mod View
pub mod Programs
pub mod Checking
