use Rattle.ss_code_generator.proofs.generator.Generator.condition.Goals as goal

pub returns : goal.returns
returns c = rw c.deref.ensures.value at c.alternatives.ensures
