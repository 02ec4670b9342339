use Rattle.std.proofs.Common.{◌≡◌, None}
use Rattle.std.specs.Prelude.{replicate}
use Rattle.ss_machine_entities.proofs.population.none_made.Given as goal

abbrev pub invariant-loop : goal.invariant-loop
invariant-loop l = l.made.items ≡ replicate l.counter None
