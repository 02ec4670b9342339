use Rattle.std.proofs.Common.{rules, ◌≡◌, Ok, Err, ap, subst, to_z, of_z, w64}
use Rattle.ss_machine_instructions.proofs.Common.{assigned, MatchResult, said_of_layout, Seen, Text}
use Rattle.ss_machine_instructions.proofs.attributes.assign_text.Goals as goal

pub invariant_of-world : goal.invariant_of-world
invariant_of-world c = let i = c.world.inside in said_of_layout i.population.layout c.set_text.new.self.layout i.notices.items i.timeline.histories.statistics i.classes.items c.set_text.ensures.layout c.world.invariant

pub returns-clause-done : goal.returns-clause-done
returns-clause-done c =
    let n = c.args.entity in let t = c.args.text in
    let h = c.set_text.new.self in let r = c.set_text.result in
    let same_n : to_z w64 (of_z w64 n) ≡ n = search rules in
    subst (λ (old : Seen). MatchResult r (λ _. assigned old.heap c.args.class c.args.field n (Text t) ≡ Ok h) (λ kind. (assigned old.heap c.args.class c.args.field n (Text t) ≡ Err kind) × (h ≡ old.heap))) c.world.view_is (simp same_n at c.set_text.ensures.done)

pub returns-clause-same : goal.returns-clause-same
returns-clause-same c = let h = c.set_text.new.self in ap (λ (old : Seen). record old { heap = h }) c.world.view_is
