use Rattle.std.proofs.Common.{map, take}
use Rattle.ss_program.specs.View.{view_event}
use Rattle.ss_code.specs.Sections.{HasPutEvents}
use Rattle.ss_code.proofs.generating.put_events.Given as goal

abbrev pub invariant-loop-event : goal.invariant-loop-event
invariant-loop-event l = HasPutEvents l.initial.generator l.generator l.initial.code l.code l.initial.prints.items l.prints.items (map view_event (take l.event-index l.fn.generator.program.now.events.items)) l.entries.items
