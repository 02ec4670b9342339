use Rattle.std.proofs.Common.{◌∙◌}
use Rattle.ss_check.proofs.checking.check.Goals as goal

pub checked-result-requires-clause-names : goal.checked-result-requires-clause-names
checked-result-requires-clause-names c = c.into_names-names.ensures ∙ c.requires.tables.is_of_program
