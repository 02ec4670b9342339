use Rattle.std.proofs.Common.{ap, ◌∙◌}
use Rattle.ss_stats_histories.specs.Records.{Recorded}
use Rattle.ss_stats_histories.proofs.Apart.{same_in_two}
use Rattle.ss_stats_histories.proofs.kept.Kept.reserve.Goals as goal

pub returns-in-Ok-clause-rows : goal.returns-in-Ok-clause-rows
returns-in-Ok-clause-rows c =
    same_in_two c.self.inside.system c.self.inside.others.entries c.reserve.new.self.entries c.reserve.ensures.entries.2 ∙ ap (λ (r : Recorded). r.rows) c.self.view_is
