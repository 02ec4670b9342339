use Rattle.std.proofs.Common.{◌≡◌, List, [], ◌∷◌, length, map, None, refl, ap, sym, ◌∙◌}
use Rattle.std.specs.Prelude.{replicate}
use Rattle.ss_base.specs.Plain.{PlainClass}
use Rattle.ss_records.specs.State.{State, not_made}
use Rattle.ss_machine_entities.specs.Counts.{counts_of}
use Rattle.ss_machine_entities.proofs.population.Population.new.Goals as goal

-- nothing is made at first
none_counted : (cs : List PlainClass) → replicate (length cs) None ≡ counts_of (map not_made cs)
none_counted [] = refl
none_counted (c ∷ cs) = ap (λ l. None ∷ l) (none_counted cs)

pub invariant_of-result : goal.invariant_of-result
invariant_of-result c =
    c.in_ok-made.ensures ∙ ap (λ n. replicate n None) c.class_count.ensures ∙ none_counted c.args.layout.classes
    ∙ sym (ap (λ (h : State). counts_of h.permanents) c.in_ok-heap.ensures.state)
