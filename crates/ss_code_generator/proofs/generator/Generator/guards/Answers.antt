use Rattle.std.proofs.Common.{◌≡◌, ℕ, ◌+◌, map, drop, ap, ◌∙◌, arith}
use Rattle.ss_program.specs.View.{view_guard}
use Rattle.ss_code_generator.proofs.Listed.{next_before}
use Rattle.ss_code_generator.proofs.Testing.{guards_step}
use Rattle.ss_code_generator.proofs.generator.Generator.guards.Goals as goal

pub loop-i-preserved : goal.loop-i-preserved
loop-i-preserved c =
    let l = c.loop-i in
    let x = c.index-guards-i.result in
    rw (next_before c.args.guards.now l.i x (omega arith) (omega arith) c.index-guards-i.is)
    (guards_step c.args.more (view_guard x) (map view_guard (drop l.i c.args.guards.now)) l.invariant c.in_ok-front.ensures (c.in_ok-past.ensures ∙ ap (λ (k : ℕ). k + c.args.more) c.len.ensures.value) c.in_ok-put_before.ensures)

pub returns : goal.returns
returns c =
    let zero : c.loop-i.i ≡ 0 = omega arith in
    rw c.into_piece.ensures (rw zero at c.loop-i.invariant)
