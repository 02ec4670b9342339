use Rattle.std.proofs.Common.{take, get_or}
use Rattle.ss_code_generator.proofs.Common.{CountedClass, take_more}
use Rattle.ss_code_generator.proofs.Listed.{creates_step}
use Rattle.ss_code_generator.proofs.generator.Generator.creates.Goals as goal

pub loop-counted-preserved : goal.loop-counted-preserved
loop-counted-preserved c =
    let l = c.loop-counted in
    let xs = c.args.classes.now in
    let none : CountedClass = record { class = 0; variable = 0 } in
    rw (take_more xs l.counted-index none c.loop-counted-test.true) (creates_step (take l.counted-index xs) (get_or xs l.counted-index none) l.invariant (rw (c.in_ok-class.ensures, c.in_ok-variable.ensures) at c.in_ok-put.ensures))
