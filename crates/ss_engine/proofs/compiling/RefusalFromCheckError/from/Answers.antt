use Rattle.ss_engine.proofs.Fronts.{used_other}
use Rattle.ss_engine.proofs.compiling.RefusalFromCheckError.from.Goals as goal

pub returns-in_default : goal.returns-in_default
returns-in_default c = used_other c.args.error c.in_default.not-Memory
