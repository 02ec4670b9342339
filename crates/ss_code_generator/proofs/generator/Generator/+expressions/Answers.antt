use Rattle.std.proofs.Common.{◌≡◌, ◌+◌, ◌-◌, ◌<◌, length, ap, ◌∙◌, arith, Some}
use Rattle.ss_code_generator.proofs.Common.{asking_member, asking_set, calculating, code_of, Constant, on_ok_weaker, operator_of, pos, Whole}
use Rattle.ss_program.specs.View.{view_expression}
use Rattle.ss_program.specs.Views.{view_calculate_made}
use Rattle.ss_code_instructions.specs.declared.instruction.Instruction.TheVariants as r
use Rattle.ss_code_instructions.specs.Instructions as i
use Rattle.ss_code_pieces.proofs.Leafs.{alone_is, none_counted}
use Rattle.ss_code_generator.proofs.Forms as forms
use Rattle.ss_code_generator.proofs.Values.{constant_emitted, fetch_emitted, system_set_emitted, figure_emitted, attribute_emitted, one_emitted, operation_emitted, more_emitted, next_reads, folded_taken, folded_last, field_known, variable_known}
use Rattle.ss_code_generator.proofs.generator.Generator.+expressions.Goals as goal

pub expression-returns-in_ok-from-in-Constant : goal.expression-returns-in_ok-from-in-Constant
unfolding view_expression
expression-returns-in_ok-from-in-Constant t c =
    let from = c.in_ok-from-in-Constant in
    rw c.in-Constant.is (on_ok_weaker c.put.result (constant_emitted c.args.to c.in-Constant.value from.from from.ensures.grows from.ensures.at) (rw (c.move_of.ensures, c.mode.ensures) at c.put.ensures))

pub expression-returns-in_ok-from-in-Fetch : goal.expression-returns-in_ok-from-in-Fetch
unfolding view_expression
expression-returns-in_ok-from-in-Fetch t c =
    let x = c.in-Fetch.variable in
    let from = c.in_ok-from-in-Fetch in
    rw c.in-Fetch.is (on_ok_weaker c.put-in-Fetch.result (fetch_emitted c.args.to x from.from from.ensures (variable_known x (rw c.deref.ensures.value at c.variable_mode-mode.ensures))) (rw c.move_of-in-Fetch.ensures at c.put-in-Fetch.ensures))

pub expression-returns-in_ok-entity-in-Attribute : goal.expression-returns-in_ok-entity-in-Attribute
unfolding view_expression
expression-returns-in_ok-entity-in-Attribute t c =
    let x = c.in-Attribute in
    rw x.is (on_ok_weaker c.fetch_attribute.result (attribute_emitted c.args.to x.class x.field (rw c.deref-in-Attribute.ensures at c.in_ok-entity-in-Attribute.ensures) (field_known x.class x.field c.attribute_mode-mode.ensures)) c.fetch_attribute.ensures)

pub expression-returns-in_ok-owner-in-OfSystemSet : goal.expression-returns-in_ok-owner-in-OfSystemSet
unfolding view_expression
expression-returns-in_ok-owner-in-OfSystemSet t c =
    let x = c.in-OfSystemSet in
    let owner = c.in_ok-owner-in-OfSystemSet in
    rw x.is (on_ok_weaker c.ask_set.result (system_set_emitted c.args.to x.query x.set owner.owner owner.ensures) c.ask_set.ensures)

pub expression-returns-in_ok-owner-in-OfSet : goal.expression-returns-in_ok-owner-in-OfSet
unfolding view_expression
expression-returns-in_ok-owner-in-OfSet t c =
    let x = c.in-OfSet in
    let a = c.in_ok-owner-in-OfSet.field-0.address in
    rw x.is (on_ok_weaker c.ask_set-in-OfSet.result (λ is. one_emitted c.args.to (λ z y. i.OfSet x.query x.set (Some y) z) (asking_set x.query x.set a c.args.to) (rw c.deref-in-OfSet.ensures at c.in_ok-owner-in-OfSet.ensures) is (λ f t z h. (h.0, h.1.1.2))
    (λ f t u around h. forms.asks_set (code_of f.program) f.constants u x.query x.set a c.args.to (Some h.0, h.1, h.2)) (λ prints cells z y. tt)) c.ask_set-in-OfSet.ensures)

pub expression-returns-in_ok-member-in-OfMember : goal.expression-returns-in_ok-member-in-OfMember
unfolding view_expression
expression-returns-in_ok-member-in-OfMember t c =
    let x = c.in-OfMember in
    let a = c.in_ok-member-in-OfMember.field-0.address in
    rw x.is (on_ok_weaker c.ask_member.result (λ is. one_emitted c.args.to (λ z y. i.OfMember x.query x.set y z) (asking_member x.query x.set a c.args.to) (rw c.deref-in-OfMember.ensures at c.in_ok-member-in-OfMember.ensures) is (λ f t z h. (h.0, h.1.1.2))
    (λ f t u around h. forms.asks_member (code_of f.program) f.constants u x.query x.set a c.args.to h) (λ prints cells z y. tt)) c.ask_member.ensures)

pub expression-returns-in_ok-notice-in-TimeOf : goal.expression-returns-in_ok-notice-in-TimeOf
unfolding view_expression
expression-returns-in_ok-notice-in-TimeOf t c =
    let run = r.TimeOf c.in_ok-notice-in-TimeOf.field-0.address c.args.to in
    rw c.in-TimeOf.is (on_ok_weaker c.put-in-TimeOf.result (λ is. one_emitted c.args.to (λ z y. i.TimeOf y z) run (rw c.deref-in-TimeOf.ensures at c.in_ok-notice-in-TimeOf.ensures) is (λ f t z h. (h.0, h.1.1.1)) (λ f t u around h. h) (λ prints cells z y. tt)) c.put-in-TimeOf.ensures)

pub expression-returns-in_ok-entity-in-Figure : goal.expression-returns-in_ok-entity-in-Figure
unfolding view_expression
expression-returns-in_ok-entity-in-Figure t c =
    let x = c.in-Figure in
    let entity = c.in_ok-entity-in-Figure in
    rw x.is (on_ok_weaker c.fetch_figure.result (figure_emitted c.args.to x.fold x.statistic entity.entity entity.ensures) c.fetch_figure.ensures)

pub expression-returns-in_ok-entity-in-FigureOf : goal.expression-returns-in_ok-entity-in-FigureOf
unfolding view_expression
expression-returns-in_ok-entity-in-FigureOf t c =
    let x = c.in-FigureOf in
    let run = r.Figure x.statistic c.in_ok-entity-in-FigureOf.field-0.address c.args.to x.fold in
    rw x.is (on_ok_weaker c.fetch_figure-in-FigureOf.result (λ is. one_emitted c.args.to (λ z y. i.Figure x.fold x.statistic (Some y) z) run (rw c.deref-in-FigureOf.ensures at c.in_ok-entity-in-FigureOf.ensures) is (λ f t z h. (h.0, h.1.1.2))
    (λ f t u around h. (Some h.0, h.1, h.2)) (λ prints cells z y. tt)) c.fetch_figure-in-FigureOf.ensures)

pub expression-returns-in_ok-left-in-Signed : goal.expression-returns-in_ok-left-in-Signed
unfolding view_expression
expression-returns-in_ok-left-in-Signed t c =
    let op = operator_of c.in-Signed.sign in
    let left = c.in_ok-left-in-Signed in
    let a = c.in_ok-right-in-Signed.field-0.address in
    rw c.in-Signed.is (on_ok_weaker c.put-in-Signed.result (λ is. one_emitted c.args.to (λ z y. i.Calculate op (Constant (Whole (pos 0))) y z) (calculating op left.left a c.args.to) (rw c.deref-in-Signed.ensures at c.in_ok-right-in-Signed.ensures) is (λ f t z h. (h.0, h.1.1.1))
    (λ f t u around h. forms.calculates (code_of f.program) f.constants u op left.left a c.args.to (Constant (Whole (pos 0)), left.ensures f t around, h)) (λ prints cells z y. tt)) (rw c.signed.ensures at c.put-in-Signed.ensures))

pub expression-returns-in_ok-of-in-Unary : goal.expression-returns-in_ok-of-in-Unary
unfolding view_expression
expression-returns-in_ok-of-in-Unary t c =
    let op = c.in-Unary.operator in
    let run = r.Unary op c.in_ok-of-in-Unary.field-0.address c.args.to in
    rw c.in-Unary.is (on_ok_weaker c.put-in-Unary.result (λ is. one_emitted c.args.to (λ z y. i.Unary op y z) run (rw c.deref-in-Unary.ensures at c.in_ok-of-in-Unary.ensures) is (λ f t z h. (h.0, h.1.1.1)) (λ f t u around h. h) (λ prints cells z y. tt)) c.put-in-Unary.ensures)

pub operation-returns : goal.operation-returns
operation-returns t c = operation_emitted c.args.to c.args.operation.now c.above.ensures.line c.above.ensures.height c.in_ok-right.ensures (rw c.calculate.ensures at c.in_ok-put.ensures)

pub expression-returns-then-count-eq0 : goal.expression-returns-then-count-eq0
expression-returns-then-count-eq0 t c =
    let v = c.in-Calculate.further in
    let same = alone_is c.args.e.now c.in-Calculate.first v c.in-Calculate.is (none_counted v c.len-count.result c.len-count.ensures c.if-count-eq0.true) in
    rw (same, ← c.deref-then-count-eq0.ensures) c.expression.ensures

pub expression-returns-in_ok-left-in-Calculate : goal.expression-returns-in_ok-left-in-Calculate
expression-returns-in_ok-left-in-Calculate t c =
    let x = c.in-Calculate in
    let left = rw c.deref-in-Calculate.ensures at c.in_ok-left-in-Calculate.ensures in
    rw (ap view_expression x.is ∙ view_calculate_made x.first x.further)
    (on_ok_weaker c.work_off.result (λ made. rw c.deref-in-Calculate-2.ensures.value at (made c.args.self.now c.args.code.now (view_expression x.first.value) left)) c.work_off.ensures)

pub work_off-loop-i-init : goal.work_off-loop-i-init
work_off-loop-i-init t c = λ old before e m. m

pub work_off-loop-i-preserved : goal.work_off-loop-i-preserved
work_off-loop-i-preserved t c = λ old before e m.
    let os = c.args.further.now in
    let o = c.index-further-i.result in
    let next = c.in_ok-next in
    let more = folded_taken e os c.loop-i.i o (omega arith) c.index-further-i.is in
    rw (more, c.cell-left.ensures)
    (next_reads o (c.loop-i.invariant old before e m) next.ensures.grows next.ensures.at next.ensures.room c.in_ok-operation.ensures)

pub work_off-returns : goal.work_off-returns
work_off-returns t c =
    on_ok_weaker c.operation-2.result (λ n old before e m.
    let os = c.args.further.now in
    let o = c.index-further-count.result in
    let some : 0 < length os = c.requires in
    let same : length os - 1 ≡ c.loop-i.i = omega arith in
    let long : length os ≡ c.loop-i.i + 1 = omega arith in
    rw (folded_last e os c.loop-i.i (length os - 1) o long same c.index-further-count.is)
    (more_emitted o (c.loop-i.invariant old before e m) n)) c.operation-2.ensures
