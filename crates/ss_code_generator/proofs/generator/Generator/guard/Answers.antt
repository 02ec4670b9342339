use Rattle.ss_code_generator.proofs.generator.Generator.guard.Goals as goal

pub returns-in-While : goal.returns-in-While
returns-in-While c = rw c.in-While.is c.condition.ensures

pub returns-in-Until : goal.returns-in-Until
returns-in-Until c = rw c.in-Until.is c.negated.ensures
