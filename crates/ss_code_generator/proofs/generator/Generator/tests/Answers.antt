use Rattle.std.proofs.Common.{ℕ, ◌+◌, map, drop, ap, ◌∙◌, arith}
use Rattle.ss_program.specs.View.{view_test}
use Rattle.ss_code_generator.proofs.Listed.{next_before}
use Rattle.ss_code_generator.proofs.Testing.{tests_step}
use Rattle.ss_code_generator.proofs.generator.Generator.tests.Goals as goal

pub loop-i-preserved : goal.loop-i-preserved
loop-i-preserved c =
    let l = c.loop-i in
    let x = c.index-tests-i.result in
    rw (next_before c.args.tests.now l.i x (omega arith) (omega arith) c.index-tests-i.is)
    (tests_step c.args.skip (view_test x) (map view_test (drop l.i c.args.tests.now)) l.invariant (rw c.new-front.ensures at c.in_ok-test.ensures) (c.in_ok-past.ensures ∙ ap (λ (k : ℕ). k + c.args.skip) c.len.ensures.value) c.in_ok-put_before.ensures)
