use Rattle.ss_engine.proofs.Meanings.{one_program, one_meaning, each_has_one, programs_are_typed, never_goes_wrong}
use Rattle.ss_engine.proofs.text_laws.laws.Goals as goal

pub returns-clause-one_program : goal.returns-clause-one_program
returns-clause-one_program c = one_program c.one_list.ensures c.one_tree.ensures

pub returns-clause-one_meaning : goal.returns-clause-one_meaning
returns-clause-one_meaning c = one_meaning (one_program c.one_list.ensures c.one_tree.ensures)

pub returns-clause-each_has_one : goal.returns-clause-each_has_one
returns-clause-each_has_one c = each_has_one c.programs_resolve.ensures

pub returns-clause-typed : goal.returns-clause-typed
returns-clause-typed c = programs_are_typed c.programs_resolve.ensures

pub returns-clause-never_wrong : goal.returns-clause-never_wrong
returns-clause-never_wrong c = never_goes_wrong (programs_are_typed c.programs_resolve.ensures) c.laws.ensures.never_wrong
