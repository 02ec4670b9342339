use Rattle.std.proofs.Common.{◌≡◌, true, ◌++◌, map, take}
use Rattle.ss_names_uses.proofs.Common.{ExpressionTree, flat_map, in_expression, Sign, view_expression_tree, view_term}
use Rattle.ss_names_uses.proofs.expressions.+adding.Given as goal

abbrev pub invariant-add_numbers-loop-expression : goal.invariant-add_numbers-loop-expression
invariant-add_numbers-loop-expression l = l.into.items ≡ l.initial.into.items ++ flat_map (in_expression l.line true) (map view_expression_tree (take l.expression-index l.expressions))

abbrev pub invariant-add_terms-loop-term : goal.invariant-add_terms-loop-term
invariant-add_terms-loop-term l = l.into.items ≡ l.initial.into.items ++ flat_map (λ (t : Sign × ExpressionTree). in_expression l.line true t.1) (map view_term (take l.term-index l.terms))
