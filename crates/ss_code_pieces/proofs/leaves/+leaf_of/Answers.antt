use Rattle.std.proofs.Common.{sym, ap, ◌∙◌}
use Rattle.ss_program.specs.View.{view_expression}
use Rattle.ss_code_instructions.specs.Translation.{leaf}
use Rattle.ss_code_pieces.proofs.Leafs.{alone_is, several_none, empty_is, filled_is}
use Rattle.ss_code_pieces.proofs.leaves.+leaf_of.Goals as goal

pub returns-then-is_empty : goal.returns-then-is_empty
returns-then-is_empty t c =
    let v = c.in-Calculate.further in
    let same = alone_is c.args.e.now c.in-Calculate.first v c.in-Calculate.is (empty_is v c.is_empty.result c.is_empty.ensures c.if-is_empty.true) in
    c.leaf_of.ensures ∙ ap (λ e. leaf (view_expression e)) c.deref.ensures ∙ ap leaf (sym same)

pub returns-else-is_empty : goal.returns-else-is_empty
returns-else-is_empty t c =
    let v = c.in-Calculate.further in
    sym (several_none c.args.e.now c.in-Calculate.first v c.in-Calculate.is (filled_is v c.is_empty.result c.is_empty.ensures c.if-is_empty.false))
