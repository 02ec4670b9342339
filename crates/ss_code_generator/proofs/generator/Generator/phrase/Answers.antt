use Rattle.ss_code_generator.proofs.generator.Generator.phrase.Goals as goal

pub returns-in-With : goal.returns-in-With
returns-in-With c = rw c.in-With.is c.condition.ensures

pub returns-in-Unless : goal.returns-in-Unless
returns-in-Unless c = rw c.in-Unless.is c.negated.ensures

pub returns-in-While : goal.returns-in-While
returns-in-While c = rw c.in-While.is (rw c.in_ok-past.ensures at c.condition-in-While.ensures)

pub returns-in-Until : goal.returns-in-Until
returns-in-Until c = rw c.in-Until.is (rw c.in_ok-past.ensures at c.negated-in-Until.ensures)
