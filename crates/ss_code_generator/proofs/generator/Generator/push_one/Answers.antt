use Rattle.std.proofs.lemmas.Result.{on_ok_weaker}
use Rattle.ss_code_generator.proofs.Pushing.{one_pushed}
use Rattle.ss_code_generator.proofs.generator.Generator.push_one.Goals as goal

pub returns-clause-code : goal.returns-clause-code
returns-clause-code c = on_ok_weaker c.put.result (one_pushed c.in_ok-to.to c.in_ok-from.from c.in_ok-to.ensures.grows c.in_ok-to.ensures.at c.in_ok-from.ensures) c.put.ensures
