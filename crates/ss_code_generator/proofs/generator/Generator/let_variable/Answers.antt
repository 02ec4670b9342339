use Rattle.std.proofs.lemmas.Result.{on_ok_weaker}
use Rattle.ss_code_generator.proofs.Letting.{let_kept}
use Rattle.ss_code_generator.proofs.generator.Generator.let_variable.Goals as goal

pub returns-in_ok-from-in-Some : goal.returns-in_ok-from-in-Some
returns-in_ok-from-in-Some c = on_ok_weaker c.put.result (let_kept c.in-Some.is c.in_ok-from-in-Some.ensures) c.put.ensures
