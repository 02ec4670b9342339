use Rattle.ss_engine.proofs.Fronts.{lexed_other}
use Rattle.ss_engine.proofs.compiling.RefusalFromLexError.from.Goals as goal

pub returns-in_default : goal.returns-in_default
returns-in_default c = lexed_other c.args.error c.in_default.not-Memory
