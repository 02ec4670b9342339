use Rattle.std.proofs.lemmas.Result.{on_ok_weaker}
use Rattle.ss_code_generator.proofs.Spotted.{attribute_given, count_given}
use Rattle.ss_code_generator.proofs.generator.Generator.assign.Goals as goal

pub returns-in-Attribute : goal.returns-in-Attribute
returns-in-Attribute c = rw c.in-Attribute.is (on_ok_weaker c.put.result (attribute_given c.args.from c.in-Attribute.attribute) (rw c.set_of.ensures at c.put.ensures))

pub returns-in_ok-put-in-Count : goal.returns-in_ok-put-in-Count
returns-in_ok-put-in-Count c =
    rw c.in-Count.is (on_ok_weaker c.assign_variable-in-Count.result (count_given c.args.from c.in-Count.class c.in-Count.variable c.in_ok-put-in-Count.ensures) c.assign_variable-in-Count.ensures)
