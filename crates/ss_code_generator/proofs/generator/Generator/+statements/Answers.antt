use Rattle.std.proofs.Common.{◌≡◌, map, take, refl, ap, ◌∙◌}
use Rattle.ss_code_generator.proofs.Common.{line_or_none, on_ok_weaker, take_all}
use Rattle.ss_program.specs.View.{view_body, view_condition, view_guard, view_item, view_phrase, view_head, view_statement}
use Rattle.ss_program.specs.Program as p
use Rattle.ss_program.specs.Views.{view_if_made, view_loop_made, view_for_made, view_find_made}
use Rattle.ss_code_instructions.specs.Instructions as i
use Rattle.ss_code_instructions.specs.declared.instruction.Instruction.TheVariants as r
use Rattle.ss_code_pieces.proofs.Steps.{next_taken}
use Rattle.ss_code_generator.proofs.Emitting.{grows_same, emits_one}
use Rattle.ss_code_generator.proofs.Bodies.{print_seen, said, loop_said, for_said, if_said, find_said, print_said, body_none, body_more}
use Rattle.ss_code_generator.proofs.generator.Generator.+statements.Goals as goal

pub statement-returns-in-Let : goal.statement-returns-in-Let
unfolding view_statement
statement-returns-in-Let t c = on_ok_weaker c.assignment.result (said c.in-Let.is c.line_of.ensures (λ f t u h. h) refl (λ first t. refl)) c.assignment.ensures

pub statement-returns-in-Change : goal.statement-returns-in-Change
unfolding view_statement
statement-returns-in-Change t c = on_ok_weaker c.change.result (said c.in-Change.is c.line_of.ensures (λ f t u h. h) refl (λ first t. refl)) c.change.ensures

pub statement-returns-in-Call : goal.statement-returns-in-Call
unfolding view_statement
statement-returns-in-Call t c = on_ok_weaker c.call.result (said c.in-Call.is c.line_of.ensures (λ f t u h. h) refl (λ first t. refl)) (rw (c.deref.ensures.value, c.deref-in-Call.ensures.value) at c.call.ensures)

pub statement-returns-in-Return : goal.statement-returns-in-Return
unfolding view_statement
statement-returns-in-Return t c =
    on_ok_weaker c.put.result (λ is. said {Fit = λ f t u. Unit {0}} c.in-Return.is c.line_of.ensures (λ f t u h. tt) refl (λ first t. refl) (emits_one (λ t u. i.Leave) r.Leave grows_same is (λ f t u around located good. (refl, tt)))) c.put.ensures

pub statement-returns-in-Stop : goal.statement-returns-in-Stop
unfolding view_statement
statement-returns-in-Stop t c =
    on_ok_weaker c.put-in-Stop.result (λ is. said {Fit = λ f t u. Unit {0}} c.in-Stop.is c.line_of.ensures (λ f t u h. tt) refl (λ first t. refl) (emits_one (λ t u. i.Halt) r.Halt grows_same is (λ f t u around located good. (refl, tt)))) c.put-in-Stop.ensures

pub statement-returns-in-Read : goal.statement-returns-in-Read
unfolding view_statement
statement-returns-in-Read t c = on_ok_weaker c.reads.result (said c.in-Read.is c.line_of.ensures (λ f t u h. h) refl (λ first t. refl)) (rw c.deref-in-Read.ensures.value at c.reads.ensures)

pub statement-returns-in-Simulate : goal.statement-returns-in-Simulate
unfolding view_statement
statement-returns-in-Simulate t c = on_ok_weaker c.simulate.result (said c.in-Simulate.is c.line_of.ensures (λ f t u h. tt) refl (λ first t. refl)) c.simulate.ensures

pub statement-returns-in-Create : goal.statement-returns-in-Create
unfolding view_statement
statement-returns-in-Create t c = on_ok_weaker c.create.result (said c.in-Create.is c.line_of.ensures (λ f t u h. h.1) refl (λ first t. refl)) c.create.ensures

pub statement-returns-in-CreateEvery : goal.statement-returns-in-CreateEvery
unfolding view_statement
statement-returns-in-CreateEvery t c = on_ok_weaker c.creates.result (said c.in-CreateEvery.is c.line_of.ensures (λ f t u h. tt) refl (λ first t. refl)) (rw c.deref-in-CreateEvery.ensures.value at c.creates.ensures)

pub statement-returns-in-Destroy : goal.statement-returns-in-Destroy
unfolding view_statement
statement-returns-in-Destroy t c = on_ok_weaker c.destroy.result (said c.in-Destroy.is c.line_of.ensures (λ f t u h. h) refl (λ first t. refl)) c.destroy.ensures

pub statement-returns-in-File : goal.statement-returns-in-File
unfolding view_statement
statement-returns-in-File t c = on_ok_weaker c.file.result (said c.in-File.is c.line_of.ensures (λ f t u h. h) refl (λ first t. refl)) c.file.ensures

pub statement-returns-in-RemoveEnd : goal.statement-returns-in-RemoveEnd
unfolding view_statement
statement-returns-in-RemoveEnd t c = on_ok_weaker c.remove_end.result (said c.in-RemoveEnd.is c.line_of.ensures (λ f t u h. h) refl (λ first t. refl)) c.remove_end.ensures

pub statement-returns-in-Remove : goal.statement-returns-in-Remove
unfolding view_statement
statement-returns-in-Remove t c = on_ok_weaker c.remove.result (said c.in-Remove.is c.line_of.ensures (λ f t u h. h) refl (λ first t. refl)) c.remove.ensures

pub statement-returns-in-ScheduleNew : goal.statement-returns-in-ScheduleNew
unfolding view_statement
statement-returns-in-ScheduleNew t c = on_ok_weaker c.schedule_new.result (said c.in-ScheduleNew.is c.line_of.ensures (λ f t u h. h) refl (λ first t. refl)) (rw c.deref-in-ScheduleNew.ensures.value at c.schedule_new.ensures)

pub statement-returns-in-Schedule : goal.statement-returns-in-Schedule
unfolding view_statement
statement-returns-in-Schedule t c = on_ok_weaker c.schedule.result (said c.in-Schedule.is c.line_of.ensures (λ f t u h. h) refl (λ first t. refl)) (rw c.deref-in-Schedule.ensures.value at c.schedule.ensures)

pub statement-returns-in-Cancel : goal.statement-returns-in-Cancel
unfolding view_statement
statement-returns-in-Cancel t c = on_ok_weaker c.cancel.result (said c.in-Cancel.is c.line_of.ensures (λ f t u h. h) refl (λ first t. refl)) c.cancel.ensures

pub statement-returns-in-Reset : goal.statement-returns-in-Reset
unfolding view_statement
statement-returns-in-Reset t c = on_ok_weaker c.resets.result (said c.in-Reset.is c.line_of.ensures (λ f t u h. h) refl (λ first t. refl)) (rw c.deref-in-Reset.ensures.value at c.resets.ensures)

pub statement-returns-in-Skip : goal.statement-returns-in-Skip
unfolding view_statement
statement-returns-in-Skip t c = on_ok_weaker c.skip.result (said c.in-Skip.is c.line_of.ensures (λ f t u h. h) refl (λ first t. refl)) c.skip.ensures

pub statement-returns-in-Print : goal.statement-returns-in-Print
statement-returns-in-Print t' c =
    let i' = c.in-Print in
    let seen : view_statement c.args.s.now ≡ p.Print i'.line (map view_item i'.items.items) (map (λ line. line.items) i'.pictures.items) = ap view_statement i'.is ∙ print_seen i'.line i'.items i'.pictures in
    rw seen (on_ok_weaker c.print.result
    (print_said (map view_item i'.items.items) (map (λ line. line.items) i'.pictures.items) (c.line_of.ensures ∙ ap line_or_none seen))
    (rw (c.deref-in-Print.ensures.value, c.deref-in-Print-2.ensures.value) at c.print.ensures))

pub statement-returns-in_ok-second-in-If : goal.statement-returns-in_ok-second-in-If
statement-returns-in_ok-second-in-If t' c =
    let i' = c.in-If in
    let a = view_body i'.then.items in
    let b = view_body i'.otherwise.items in
    let seen : view_statement c.args.s.now ≡ p.If i'.line (view_condition i'.condition) a b = ap view_statement i'.is ∙ view_if_made i'.line i'.condition i'.then i'.otherwise in
    rw (seen, ← (c.line_of.ensures ∙ ap line_or_none seen)) (on_ok_weaker c.branches.result
    (if_said a b (rw c.deref-in-If.ensures.value at c.in_ok-first-in-If.ensures) (rw c.deref-in-If-2.ensures.value at c.in_ok-second-in-If.ensures) (view_condition i'.condition)) c.branches.ensures)

pub statement-returns-in_ok-turn-in-Loop : goal.statement-returns-in_ok-turn-in-Loop
statement-returns-in_ok-turn-in-Loop t' c =
    let i' = c.in-Loop in
    let a = view_body i'.body.items in
    let gs = map view_guard i'.guards.items in
    let seen : view_statement c.args.s.now ≡ p.Loop i'.line gs a = ap view_statement i'.is ∙ view_loop_made i'.line i'.guards i'.body in
    rw (seen, ← (c.line_of.ensures ∙ ap line_or_none seen)) (on_ok_weaker c.guarded_loop.result
    (loop_said gs a (rw c.deref-in-Loop.ensures.value at c.in_ok-turn-in-Loop.ensures)) (rw c.deref-in-Loop-2.ensures.value at c.guarded_loop.ensures))

pub statement-returns-in-For : goal.statement-returns-in-For
statement-returns-in-For t' c =
    let i' = c.in-For in
    let seen : view_statement c.args.s.now ≡ p.For i'.line (view_head i'.head) (map view_phrase i'.phrases.items) (view_body i'.body.items) = ap view_statement i'.is ∙ view_for_made i'.line i'.head i'.phrases i'.body in
    rw (seen, ← (c.line_of.ensures ∙ ap line_or_none seen)) (rw (c.as_slice-phrases.ensures.value, c.deref-in-For.ensures.value) at c.for_statement.ensures)

pub statement-returns-in_ok-second-in-Find : goal.statement-returns-in_ok-second-in-Find
statement-returns-in_ok-second-in-Find t' c =
    let i' = c.in-Find in
    let a = view_body i'.found.items in
    let b = view_body i'.none.items in
    let ps = map view_phrase i'.phrases.items in
    let seen : view_statement c.args.s.now ≡ p.Find i'.line (view_head i'.head) ps a b = ap view_statement i'.is ∙ view_find_made i'.line i'.head i'.phrases i'.found i'.none in
    rw (seen, ← (c.line_of.ensures ∙ ap line_or_none seen)) (on_ok_weaker c.find.result
    (find_said a b (rw c.deref-in-Find.ensures.value at c.in_ok-first-in-Find.ensures) (rw c.deref-in-Find-2.ensures.value at c.in_ok-second-in-Find.ensures) (view_head i'.head) ps)
    (rw c.as_slice-phrases-in-Find.ensures.value at c.find.ensures))

pub for_statement-returns : goal.for_statement-returns
for_statement-returns t' c =
    on_ok_weaker c.for_loop.result
    (for_said (view_head c.args.cases.head.now) (map view_phrase c.args.cases.phrases.now) (view_body c.args.body.now) c.cells_of.ensures c.above-above.ensures.line c.above-above.ensures.height c.reach.ensures.grows c.reach.ensures.room c.in_ok-inner.ensures c.in_ok-turn.ensures) c.for_loop.ensures

pub body-returns : goal.body-returns
body-returns t' c = rw (take_all c.loop-s.s-index c.args.body.now c.loop-s-test.false) at c.loop-s.invariant

pub body-loop-s-init : goal.body-loop-s-init
body-loop-s-init t' c = body_none c.new-code.ensures

pub body-loop-s-preserved : goal.body-loop-s-preserved
body-loop-s-preserved t c =
    let l = c.loop-s in
    let item = c.s-item.result in
    rw (next_taken view_statement c.args.body.now l.s-index item c.loop-s-test.true c.s-item.is)
    (body_more (map view_statement (take l.s-index c.args.body.now)) (view_statement item) l.invariant c.in_ok-statement.ensures)
