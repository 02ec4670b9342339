use Rattle.std.proofs.Common.{◌≡◌, false, true, sym, ap, ◌∙◌}
use Rattle.ss_program.specs.View.{view_expression}
use Rattle.ss_code_instructions.specs.Facts.{is_constant}
use Rattle.ss_code_pieces.proofs.Leafs.{alone_is, begins_left, begins_right, empty_is, filled_is}
use Rattle.ss_code_pieces.proofs.leaves.+begins_with_look.Goals as goal

pub returns-then-is_empty : goal.returns-then-is_empty
returns-then-is_empty t c =
    let v = c.in-Calculate.further in
    let same = alone_is c.args.e.now c.in-Calculate.first v c.in-Calculate.is (empty_is v c.is_empty.result c.is_empty.ensures c.if-is_empty.true) in
    rw (same, ← c.deref-then-is_empty.ensures) c.begins_with_look-then-is_empty.ensures

pub returns-then-is_constant : goal.returns-then-is_constant
returns-then-is_constant t c =
    let v = c.in-Calculate.further in
    let constant : is_constant (view_expression c.in-Calculate.first.value) ≡ true = ap (λ e. is_constant (view_expression e)) (sym c.deref-else-is_empty.ensures) ∙ sym c.is_constant.ensures ∙ c.if-is_constant.true in
    c.begins_with_look-then-is_constant.ensures
    ∙ sym (begins_right c.args.class c.args.variable c.args.e.now c.in-Calculate.first v c.index.result.now c.in-Calculate.is (filled_is v c.is_empty.result c.is_empty.ensures c.if-is_empty.false) constant c.index.ensures)

pub returns-else-is_constant : goal.returns-else-is_constant
returns-else-is_constant t c =
    let other : is_constant (view_expression c.in-Calculate.first.value) ≡ false = ap (λ e. is_constant (view_expression e)) (sym c.deref-else-is_empty.ensures) ∙ sym c.is_constant.ensures ∙ c.if-is_constant.false in
    rw (begins_left c.args.class c.args.variable c.args.e.now c.in-Calculate.first c.in-Calculate.further c.in-Calculate.is other, ← c.deref-else-is_constant.ensures) c.begins_with_look-else-is_constant.ensures
