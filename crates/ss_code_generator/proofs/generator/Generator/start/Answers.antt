use Rattle.ss_code_generator.proofs.Rounds.{starts_at_end}
use Rattle.ss_code_generator.proofs.generator.Generator.start.Goals as goal

pub returns-in-AtEnd : goal.returns-in-AtEnd
returns-in-AtEnd c = rw c.in-AtEnd.is (starts_at_end c.args.walk)
