use Rattle.ss_parse_expressions.proofs.conditions.verb_end.Goals as goal

pub returns-in-Equal : goal.returns-in-Equal
returns-in-Equal c = rw (c.in-Equal.is, c.if-negated.true) c.compares.ensures

pub returns-in-Equal-2 : goal.returns-in-Equal-2
returns-in-Equal-2 c = rw (c.in-Equal-2.is, c.if-negated.false) c.compares-in-Equal-2.ensures

pub returns-in-Less : goal.returns-in-Less
returns-in-Less c = rw (c.in-Less.is, c.if-negated-2.true) c.compares-in-Less.ensures

pub returns-in-Less-2 : goal.returns-in-Less-2
returns-in-Less-2 c = rw (c.in-Less-2.is, c.if-negated-2.false) c.compares-in-Less-2.ensures

pub returns-in-Greater : goal.returns-in-Greater
returns-in-Greater c = rw (c.in-Greater.is, c.if-negated-3.true) c.compares-in-Greater.ensures

pub returns-in-Greater-2 : goal.returns-in-Greater-2
returns-in-Greater-2 c = rw (c.in-Greater-2.is, c.if-negated-3.false) c.compares-in-Greater-2.ensures
