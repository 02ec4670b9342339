use Rattle.ss_check_laws.proofs.SectionSizes.{programs_stay_small}
use Rattle.ss_check_laws.proofs.StatementSizes.{bodies_stay_small}
use Rattle.ss_check_laws.proofs.size_laws.laws_of_sizes.Goals as goal

pub returns : goal.returns
returns c = record { bodies = bodies_stay_small; programs = programs_stay_small }
