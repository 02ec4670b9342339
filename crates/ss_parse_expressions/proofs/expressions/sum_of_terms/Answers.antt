use Rattle.std.proofs.Common.{◌∙◌, sym}
use Rattle.ss_tree.specs.View.{view_expression_tree, view_term}
use Rattle.ss_tree.specs.Views.{view_sum_made}
use Rattle.ss_parse_expressions.proofs.Lists.{sum_of_some}
use Rattle.ss_parse_expressions.proofs.expressions.sum_of_terms.Goals as goal

pub returns : goal.returns
returns c =
    let first = c.in_ok-first.ensures.ok in
    let some = c.if-is_empty.false in
    let is = c.is_empty.ensures in
    view_sum_made c.in_ok-first.first c.args.further ∙ rw first (sum_of_some view_term (view_expression_tree c.args.first) c.args.further.items _ (sym c.args.further.ok.0) (sym is ∙ some))
