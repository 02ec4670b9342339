-- The names of other crates, and of definitions here, that several proofs of this crate cite, passed on from one place. Declares nothing.
pub use Rattle.ss_base.specs.declared.line.Line.{Line}
pub use Rattle.ss_base.specs.declared.words.GuardKind.{GuardKind}
pub use Rattle.ss_lex.specs.declared.token.Span.{Span}
pub use Rattle.ss_lex.specs.declared.token.Token.{Token}
pub use Rattle.ss_lex.specs.declared.token.TokenKind.{TokenKind}
pub use Rattle.ss_lex.specs.declared.word.Word.{Word}
pub use Rattle.ss_parse_expressions.proofs.Marks.{mark_skips, token, token_less}
pub use Rattle.ss_parse_expressions.proofs.ReaderLaws.{Item, Made, Reads, bind_reads, closed_reads, continues_never, done_reads, either_reads, expect_reads, fewer_reads, following_reads, item_of, made_reads, marked_reads, optional_reads, reshaped_reads, seq_reads}
pub use Rattle.ss_parse_expressions.proofs.Rows.{rows_reads, with_front}
pub use Rattle.ss_parse_expressions.proofs.Tools.{or_false}
pub use Rattle.ss_parse_expressions.specs.Openers.{openers, opens}
pub use Rattle.ss_parse_expressions.specs.Reading.{HasFailedReading, begins, choose_reader, comma, in_table, is, is_some, kind_of_mark, skip_comma, taken, word}
pub use Rattle.ss_parse_expressions.specs.SpelledExpressions.{Reference_is, Sum_is, Target_is}
pub use Rattle.ss_parse_expressions.specs.Words.{One_of, has_word, perhaps_listed, the}
pub use Rattle.ss_parse_statements.specs.SpelledStatements.{May_be_governed, Statement_from, Statement_rest, line_of_first_word, opening_word}
pub use Rattle.ss_tree.specs.Tree.{LoopHeadTree, StatementTree, find_if_statement, find_statement, for_head, guarded, if_statement, loop_statement}
unfoldable pub use Rattle.ss_tree.specs.View.{view_statement_tree}
