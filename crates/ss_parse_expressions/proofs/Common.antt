-- The names of other crates, and of definitions here, that several proofs of this crate cite, passed on from one place. Declares nothing.
pub use Rattle.ss_base.specs.declared.line.Line.{Line}
pub use Rattle.ss_base.specs.declared.words.Sign.{Sign}
pub use Rattle.ss_lex.specs.declared.token.Span.{Span}
pub use Rattle.ss_lex.specs.declared.token.Symbol.TheVariants.{CloseParenthesis, Equals, Minus, OpenParenthesis, Plus, Star}
pub use Rattle.ss_lex.specs.declared.token.Token.{Token}
pub use Rattle.ss_lex.specs.declared.token.TokenKind.{TokenKind}
pub use Rattle.ss_lex.specs.declared.word.Word.{Word}
pub use Rattle.ss_parse_expressions.specs.Openers.{openers, opens}
pub use Rattle.ss_parse_expressions.specs.ReadConditions.{condition_in, conjunction_in, reference_of}
unfoldable pub use Rattle.ss_parse_expressions.specs.ReadConditions.{test_in}
pub use Rattle.ss_parse_expressions.specs.ReadExpressions.{begins_sign, begins_sum, designator_of_word, factor_with, opening, product_of, star, sum_of_terms}
unfoldable pub use Rattle.ss_parse_expressions.specs.ReadExpressions.{sum_in}
pub use Rattle.ss_parse_expressions.specs.ReadHeads.{begins_phrase, phrases_in}
unfoldable pub use Rattle.ss_parse_expressions.specs.ReadHeads.{guard_in, phrase_in}
pub use Rattle.ss_parse_expressions.specs.ReadPlaces.{begins_target, reference_in, target_in, targets_in}
pub use Rattle.ss_parse_expressions.specs.ReadWords.{begins_among, begins_class, begins_name, done, if_present, past_article}
pub use Rattle.ss_parse_expressions.specs.Reading.{HasFailedReading, Mark, Reader, after_dropped, apply, begins, begins_by, begins_more, choose_reader, closed, comma, expect, in_table, is, is_some, kind_of_mark, list_of, maybe, maybe_list, name_in_token, seq, skip, skip_comma, skip_separator, symbol, taken, word}
unfoldable pub use Rattle.ss_parse_expressions.specs.Reading.{rows}
pub use Rattle.ss_parse_expressions.specs.Shapes.{Shape, Token_is}
pub use Rattle.ss_parse_expressions.specs.SpelledExpressions.{Designated, Further_factors, Further_terms, Plain_name, Reference_is, Sign_is, Spelled, Subscript, Sum_is, factor_place, first_place, sum_place, term_place}
pub use Rattle.ss_parse_expressions.specs.WordTables.{function_of}
pub use Rattle.ss_parse_expressions.specs.Words.{One_of, the}
pub use Rattle.ss_parse_expressions.specs.declared.failure.ParseFault.{ParseFault}
pub use Rattle.ss_tree.specs.Tree.{ExpressionRow, ExpressionTree, NamedTree, TermRow, and_expression, and_term, call, expression_row, named, no_expression, no_term, number, parenthesised, product, signed, sum, term_row, text}
pub use Rattle.ss_tree.specs.View.{view_conjunction_tree, view_guard_tree, view_named, view_phrase_tree, view_term, view_test_tree}
unfoldable pub use Rattle.ss_tree.specs.View.{view_expression_tree}
pub use Rattle.ss_tree.specs.Views.{view_named_made}
pub use Rattle.ss_tree.specs.declared.expression.Designator.{Designator}
pub use Rattle.ss_tree.specs.declared.expression.Function.{Function}
