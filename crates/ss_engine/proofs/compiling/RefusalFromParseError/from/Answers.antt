use Rattle.ss_engine.proofs.Fronts.{parsed_other}
use Rattle.ss_engine.proofs.compiling.RefusalFromParseError.from.Goals as goal

pub returns-in_default : goal.returns-in_default
returns-in_default c = parsed_other c.args.error c.in_default.not-Memory
