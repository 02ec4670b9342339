use Rattle.ss_engine.proofs.Fronts.{declared_other}
use Rattle.ss_engine.proofs.compiling.RefusalFromTableError.from.Goals as goal

pub returns-in_default : goal.returns-in_default
returns-in_default c = declared_other c.args.error c.in_default.not-Memory
