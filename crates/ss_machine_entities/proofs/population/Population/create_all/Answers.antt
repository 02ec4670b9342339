use Rattle.std.proofs.Common.{ap, sym, ◌∙◌, Some, w64, to_z, of_z}
use Rattle.std.specs.Prelude.{slice_set}
use Rattle.ss_machine_entities.proofs.Counting.{made_counts}
use Rattle.ss_machine_entities.proofs.population.Population.create_all.Goals as goal

pub invariant_of-self-in-Ok : goal.invariant_of-self-in-Ok
invariant_of-self-in-Ok c =
    c.note.ensures ∙ ap (λ l. slice_set l c.args.class (Some (to_z w64 (of_z w64 c.args.count)))) c.self.invariant ∙ sym (made_counts c.self.inside.heap.state c.create_all.new.self.state c.args.class _ c.in-Ok.ensures.done)
