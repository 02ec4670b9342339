use Rattle.std.proofs.Common.{◌≡◌}
use Rattle.ss_machine_world.proofs.Said.{unranked_to}
use Rattle.ss_machine_world.proofs.class.unranked_entries.Given as goal

abbrev pub invariant-loop-class : goal.invariant-loop-class
invariant-loop-class l = l.classes.items ≡ unranked_to l.layout l.statistics l.class
