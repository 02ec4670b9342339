use Rattle.ss_check.proofs.program.is_known.Goals as goal

pub returns-in-Event : goal.returns-in-Event
returns-in-Event c = rw c.in-Event.is c.is_notice.ensures
