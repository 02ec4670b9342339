use Rattle.std.proofs.Common.{◌∙◌, to_z-of_z}
use Rattle.ss_events_entries.proofs.entry.directory.SlotDirectory.forget.Goals as goal

pub returns : goal.returns
returns c = record { others = λ n s other apart led. c.forget_in_map.ensures n s (λ is. other (is ∙ to_z-of_z c.ranges.notice)) led }
