use Rattle.std.proofs.Common.{rules, ◌≡◌, ℤ, Ok, ap, ◌∙◌, subst, to_z, of_z, w64}
use Rattle.ss_base.specs.Arithmetic.{plus_of}
use Rattle.ss_meaning.specs.Values.{if_ok, due}
use Rattle.ss_meaning.specs.Events.{not_past}
use Rattle.ss_machine_world.specs.Seen.{with_seen}
use Rattle.ss_machine_events.proofs.Times.{not_past_right}
use Rattle.ss_machine_events.proofs.scheduling.time_in.Goals as goal

pub returns-in-Ok : goal.returns-in-Ok
returns-in-Ok c = λ s right.
    let e = c.args.world.now in
    let sum : plus_of e.time c.args.units ≡ Ok c.in-Ok.time = search rules in
    let same : to_z w64 (of_z w64 c.in-Ok.time) ≡ c.in-Ok.time = search rules in
    ap (λ r. if_ok (due r) (λ t. not_past t (with_seen s e))) sum
    ∙ subst (λ (t : ℤ). not_past t (with_seen s e) ≡ due c.time_at.result) same (c.time_at.ensures s (not_past_right (to_z w64 (of_z w64 c.in-Ok.time)) (with_seen s e)))
