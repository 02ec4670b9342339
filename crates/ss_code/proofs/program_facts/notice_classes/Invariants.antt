use Rattle.std.proofs.Common.{◌≡◌, ◌++◌, drop, map}
use Rattle.ss_program.specs.View.{view_event}
use Rattle.ss_meaning.specs.Meaning.{said_of}
use Rattle.ss_code.proofs.program_facts.notice_classes.Given as goal

abbrev pub invariant-loop-event : goal.invariant-loop-event
invariant-loop-event l = l.made.items ++ map said_of (map view_event (drop l.event-index l.events)) ≡ map said_of (map view_event l.events)
