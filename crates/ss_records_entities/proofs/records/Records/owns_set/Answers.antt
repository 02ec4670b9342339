use Rattle.std.proofs.Common.{sym, ◌∙◌}
use Rattle.ss_records_entities.proofs.Setless.{owned_by_none, none_counted}
use Rattle.ss_records_entities.proofs.records.Records.owns_set.Goals as goal

pub returns : goal.returns
returns c = λ none set e. owned_by_none c.args.self.now.layout.sets c.args.class (sym c.owned_count.ensures.value ∙ none_counted c.owned_count.result none) set e
