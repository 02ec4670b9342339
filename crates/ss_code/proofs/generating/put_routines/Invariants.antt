use Rattle.std.proofs.Common.{map, take}
use Rattle.ss_program.specs.View.{view_routine}
use Rattle.ss_code.specs.Sections.{HasPutRoutines}
use Rattle.ss_code.proofs.generating.put_routines.Given as goal

abbrev pub invariant-loop-routine : goal.invariant-loop-routine
invariant-loop-routine l = HasPutRoutines l.initial.generator l.generator l.initial.code l.code l.initial.prints.items l.prints.items (map view_routine (take l.routine-index l.fn.generator.program.now.routines.items)) l.entries.items
