use Rattle.std.proofs.Common.{◌∙◌, to_z-of_z}
use Rattle.ss_events_entries.proofs.entry.directory.SlotDirectory.note.Goals as goal

pub returns-clause-others : goal.returns-clause-others
returns-clause-others c = λ n s other apart led. c.note_in_map.ensures.others n s (λ is. other (is ∙ to_z-of_z c.ranges.notice)) apart led
