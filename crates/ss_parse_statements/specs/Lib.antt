pub mod SpelledParts
pub mod ReadSimple
pub mod SpelledStatements
pub mod ReadStatements
