use Rattle.ss_check.proofs.checking.check_tree.Goals as goal

pub returns-in-Ok-clause-declared : goal.returns-in-Ok-clause-declared
returns-in-Ok-clause-declared c = c.in-Ok.ensures.made.kept
