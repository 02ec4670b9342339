use Rattle.ss_code_generator.proofs.Common.{on_ok_weaker, view_condition}
use Rattle.std.proofs.Common.{◌≡◌, ◌+◌, length, ap, ◌∙◌, arith}
use Rattle.ss_code_generator.proofs.Bodies.{one_sided, two_sided}
use Rattle.ss_code_generator.proofs.generator.Generator.branches.Goals as goal

pub returns-then-len-eq0 : goal.returns-then-len-eq0
returns-then-len-eq0 c =
    let none : length c.args.otherwise.now ≡ 0 = omega (arith, c.if-len-eq0.true, c.len.ensures.value) in
    on_ok_weaker c.put_one_side.result (one_sided (view_condition c.args.condition.now) none (c.in_ok-past.ensures ∙ c.len-then-len-eq0.ensures.value) c.in_ok-test.ensures) c.put_one_side.ensures

pub returns : goal.returns
returns c =
    let some : length c.args.otherwise.now ≡ 0 → ⊥ = λ e. omega (arith, e, c.if-len-eq0.false, c.len.ensures.value) in
    on_ok_weaker c.append_copy.result
    (two_sided (view_condition c.args.condition.now) some (c.in_ok-past-2.ensures ∙ ap (λ k. k + 1) c.len-2.ensures.value) c.in_ok-test-2.ensures c.in_ok-put_one_side.ensures (c.in_ok-skip.ensures ∙ c.len-3.ensures.value) c.in_ok-put.ensures) c.append_copy.ensures
