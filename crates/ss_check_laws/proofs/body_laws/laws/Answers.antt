use Rattle.ss_check_laws.proofs.Statements.{bodies_resolve}
use Rattle.ss_check_laws.proofs.body_laws.laws.Goals as goal

pub returns : goal.returns
returns c = bodies_resolve
