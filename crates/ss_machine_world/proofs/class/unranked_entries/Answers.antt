use Rattle.std.proofs.Common.{arith, rules, ◌≡◌, false, List, [], length, ap, sym, ◌∙◌, subst}
use Rattle.ss_machine_world.proofs.Common.{AreSaid, ClassEntry}
use Rattle.ss_machine_world.proofs.Said.{unranked_to, unranked_said}
use Rattle.ss_machine_world.proofs.class.unranked_entries.Goals as goal

pub returns : goal.returns
returns c =
    let l = c.args.layout.now in let ss = c.args.statistics.now in
    let many : c.len-class-end.result ≡ length l.classes = search rules in
    let all : c.loop-class.class ≡ length l.classes = omega (arith, many, c.loop-class-test.false, c.loop-class.auto.class-end) in
    subst (λ (entries : List ClassEntry). AreSaid l [] ss entries) (sym (c.loop-class.invariant ∙ ap (unranked_to l ss) all)) (unranked_said l ss)
