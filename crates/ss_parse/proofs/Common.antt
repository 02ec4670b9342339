-- The names of other crates, and of definitions here, that several proofs of this crate cite, passed on from one place. Declares nothing.
pub use Rattle.ss_base.specs.declared.layout.ClassKind.{ClassKind}
pub use Rattle.ss_base.specs.declared.line.Line.{Line}
pub use Rattle.ss_base.specs.declared.words.Weighting.{Weighting}
pub use Rattle.ss_lex.specs.declared.token.Span.{Span}
pub use Rattle.ss_lex.specs.declared.token.Token.{Token}
pub use Rattle.ss_lex.specs.declared.word.Word.{Word}
pub use Rattle.ss_parse.specs.Promise.{Has_no_tree}
unfoldable pub use Rattle.ss_parse.specs.ReadPreambles.{clause}
pub use Rattle.ss_parse.specs.ReadPrograms.{begins_section, definition, definitions, section_in}
pub use Rattle.ss_parse.specs.SpelledPreambles.{Statistic_is, weighting_word}
pub use Rattle.ss_parse.specs.SpelledPrograms.{Is_spelling, Program_is}
pub use Rattle.ss_parse_expressions.proofs.Marks.{token_less}
pub use Rattle.ss_parse_expressions.proofs.ReaderLaws.{Item, Made, Reads, apply_reads, closed_reads, continues_never, done_reads, either_reads, expect_reads, fewer_reads, following_reads, item_marked, item_of, made_reads, marked_reads, maybe_list_reads, optional_reads, reshaped_reads, seq_reads}
pub use Rattle.ss_parse_expressions.proofs.Rows.{Loop, breaks, breaks_plain, first_and_reads, grows, grows_plain, is_done, is_done_plain, loop_of, next_fails, next_read, separated_item, with_front}
pub use Rattle.ss_parse_expressions.proofs.Tools.{or_false}
pub use Rattle.ss_parse_expressions.proofs.WordLaws.{fail_reads, item_made, items_reads, name_reads, names_reads, no_word, noisy_mark_reads, optional_class_reads, perhaps_listed_reads, word_in_reads}
pub use Rattle.ss_parse_expressions.specs.Openers.{openers}
pub use Rattle.ss_parse_expressions.specs.ReadWords.{begins_among, begins_class, begins_item, begins_name, begins_noisy}
pub use Rattle.ss_parse_expressions.specs.Reading.{HasFailedReading, begins, begins_by, begins_more, comma, in_table, is, name_in_token, skip_separator, taken, word}
unfoldable pub use Rattle.ss_parse_expressions.specs.Reading.{rows}
pub use Rattle.ss_parse_expressions.specs.Shapes.{separated_list}
pub use Rattle.ss_parse_expressions.specs.WordTables.{mode_of_word}
pub use Rattle.ss_parse_expressions.specs.Words.{Item_is, has_word, perhaps_listed}
pub use Rattle.ss_parse_expressions.specs.declared.failure.ParseFailure.{ParseFailure}
pub use Rattle.ss_parse_expressions.specs.declared.failure.ParseFault.{ParseFault}
pub use Rattle.ss_parse_statements.proofs.FirstWords.{Form, by_word_reads, first_less, plain_form}
pub use Rattle.ss_parse_statements.specs.SpelledStatements.{noisy}
pub use Rattle.ss_tree.specs.Tree.{PreambleTree}
pub use Rattle.ss_tree.specs.View.{view_clause, view_definition, view_preamble, view_section}
pub use Rattle.ss_tree.specs.declared.preamble.ModeWord.{ModeWord}
pub use Rattle.ss_tree.specs.declared.preamble.NamedKey.{NamedKey}
pub use Rattle.ss_tree.specs.declared.preamble.NamedStatistic.{NamedStatistic}
pub use Rattle.std.proofs.lemmas.Result.{err_from_is_err_and}
