-- The names of other crates, and of definitions here, that several proofs of this crate cite, passed on from one place. Declares nothing.
pub use Rattle.ss_base.specs.declared.words.Sign.{Sign}
pub use Rattle.ss_names_uses.specs.Uses.{count, in_all_named, in_body, in_expression, in_guard, in_inner, in_item, in_item_at, in_local_definition, in_named, in_numbers, in_phrase, in_places, in_row, in_statement, in_target, in_terms, in_test, in_value, place_use, row_length}
pub use Rattle.ss_tree.specs.Tree.{ExpressionTree, StatementTree, expression_row, statement_row, term_row}
pub use Rattle.ss_tree.specs.View.{view_conjunction_tree, view_definition, view_guard_tree, view_named, view_phrase_tree, view_term, view_test_tree}
unfoldable pub use Rattle.ss_tree.specs.View.{view_expression_tree, view_statement_tree}
pub use Rattle.std.specs.List.{flat_map}
