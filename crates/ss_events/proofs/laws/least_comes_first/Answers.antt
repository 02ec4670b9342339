use Rattle.ss_events.proofs.Leasts.{least_one, least_first}
use Rattle.ss_events.proofs.laws.least_comes_first.Goals as goal

pub returns-clause-one : goal.returns-clause-one
returns-clause-one c = least_one

pub returns-clause-first : goal.returns-clause-first
returns-clause-first c = least_first
