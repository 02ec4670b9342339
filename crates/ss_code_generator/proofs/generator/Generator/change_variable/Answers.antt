use Rattle.std.proofs.lemmas.Result.{on_ok_weaker}
use Rattle.ss_code_generator.proofs.Letting.{variable_changed}
use Rattle.ss_code_generator.proofs.generator.Generator.change_variable.Goals as goal

pub returns : goal.returns
returns c =
    on_ok_weaker c.take.result (variable_changed c.args.sign c.in_ok-to.to c.args.changed.spot c.args.changed.variable c.in_ok-by.ensures c.in_ok-to.ensures.grows c.in_ok-to.ensures.at (rw c.signed.ensures at c.in_ok-put.ensures)) c.take.ensures
