use Rattle.ss_code_generator.proofs.Testing.{then_jumps}
use Rattle.ss_code_generator.proofs.generator.Generator.negated.Goals as goal

pub returns : goal.returns
returns c = then_jumps c.args.skip c.in_ok-code.ensures c.in_ok-put.ensures
