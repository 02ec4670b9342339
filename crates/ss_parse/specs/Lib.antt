pub use Rattle.ss_parse_expressions.specs.Openers
pub mod SpelledPreambles
pub mod SpelledPrograms
pub mod ReadPreambles
pub mod ReadPrograms
pub mod Promise
pub mod Reaches
