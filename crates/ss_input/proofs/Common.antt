-- The names of other crates, and of definitions here, that several proofs of this crate cite, passed on from one place. Declares nothing.
pub use Rattle.ss_base.specs.declared.fault.FaultKind.TheVariants.{BadData}
pub use Rattle.ss_base.specs.declared.layout.Mode.TheVariants.{Integer}
pub use Rattle.ss_base.specs.declared.value.Value.TheVariants.{Whole}
pub use Rattle.ss_input.specs.Blocks.{BlockSeen, HasPeeked, IsEndKnown, first_input_byte}
pub use Rattle.ss_input.specs.Inputs.{HasFound, HasReached, HasReadInput, failures_after, source_block, source_gap}
pub use Rattle.ss_input.specs.Numbers.{cap}
pub use Rattle.ss_input.specs.Sources.{HasGivenBytes, HasPassed, HasPassedSome, IsEnough, IsGapPassed, IsNextWanted, IsUnasked, IsWordPassed, MustAskMore}
pub use Rattle.ss_input.specs.Words.{digits_from, from_word, if_read, is_digit, is_ended, is_separator, is_word_byte, leading_word, next_word, no_word, value_given}
pub use Rattle.ss_input.specs.declared.source.Missed.TheVariants.{Fault, Input}
pub use Rattle.ss_input.specs.declared.source.Source.{Source}
pub use Rattle.std.proofs.lemmas.Bool.{leb-true, lt-ltb}
pub use Rattle.std.proofs.lemmas.List.{append-nil, append_assoc, length-append}
pub use Rattle.std.proofs.lemmas.List.Folds.{list_all-append}
pub use Rattle.std.specs.Io.KnownBytes.{Consumes}
pub use Rattle.std.specs.List.{list_all}
