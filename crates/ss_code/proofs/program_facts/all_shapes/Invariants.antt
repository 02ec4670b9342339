use Rattle.std.proofs.Common.{◌≡◌, ◌++◌, drop, map}
use Rattle.ss_program.specs.View.{view_event}
use Rattle.ss_meaning.specs.Meaning.{tie_shapes}
use Rattle.ss_code.proofs.program_facts.all_shapes.Given as goal

abbrev pub invariant-loop-event : goal.invariant-loop-event
invariant-loop-event l = map (λ shapes. shapes.items) l.made.items ++ map (tie_shapes l.layout) (map view_event (drop l.event-index l.events)) ≡ map (tie_shapes l.layout) (map view_event l.events)
