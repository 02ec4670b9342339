use Rattle.std.proofs.lemmas.Result.{on_ok_weaker}
use Rattle.ss_code_generator.proofs.Spotted.{moved_given}
use Rattle.ss_code_generator.proofs.generator.Generator.assign_variable.Goals as goal

pub returns-in-None : goal.returns-in-None
returns-in-None c = on_ok_weaker c.put-in-None.result (moved_given c.args.from c.args.variable c.in-None.is) (rw c.move_of.ensures at c.put-in-None.ensures)
