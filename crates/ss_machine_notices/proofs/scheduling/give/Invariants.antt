use Rattle.ss_machine_notices.specs.Giving.{HasGivenValues}
use Rattle.ss_machine_notices.proofs.Giving.{Endowed}
use Rattle.ss_machine_notices.proofs.scheduling.give.Given as goal

-- so many attributes are assigned, whatever the store
abbrev pub invariant-loop-field : goal.invariant-loop-field
invariant-loop-field l =
    (g : HasGivenValues l.what.class l.what.noted l.what.from l.given l.rows l.fn.world) → Endowed l.what.class l.what.notice l.what.noted l.what.from l.given l.rows l.fn.world l.field l.world g
