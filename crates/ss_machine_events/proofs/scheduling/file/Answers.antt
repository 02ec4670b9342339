use Rattle.std.proofs.Common.{◌∙◌, sym}
use Rattle.ss_machine_events.proofs.Filing.{no_keys}
use Rattle.ss_machine_events.proofs.scheduling.file.Goals as goal

pub schedule_untied-requires-clause-untied : goal.schedule_untied-requires-clause-untied
schedule_untied-requires-clause-untied c = λ r is. no_keys r.said.ties (sym (c.has_ties.ensures r is) ∙ c.if-has_ties.false)
