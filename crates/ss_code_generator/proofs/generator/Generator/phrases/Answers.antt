use Rattle.std.proofs.Common.{◌≡◌, map, drop, ◌∙◌, arith}
use Rattle.ss_program.specs.View.{view_phrase}
use Rattle.ss_code_generator.proofs.Listed.{next_before}
use Rattle.ss_code_generator.proofs.Testing.{phrases_step}
use Rattle.ss_code_generator.proofs.generator.Generator.phrases.Goals as goal

pub loop-i-preserved : goal.loop-i-preserved
loop-i-preserved c =
    let l = c.loop-i in
    let x = c.index-phrases-i.result in
    rw (next_before c.args.phrases.now l.i x (omega arith) (omega arith) c.index-phrases-i.is)
    (phrases_step (view_phrase x) (map view_phrase (drop l.i c.args.phrases.now)) l.invariant c.in_ok-front.ensures (c.in_ok-past.ensures ∙ c.len.ensures.value) c.in_ok-put_before.ensures)

pub returns : goal.returns
returns c =
    let zero : c.loop-i.i ≡ 0 = omega arith in
    rw c.into_piece.ensures (rw zero at c.loop-i.invariant)
