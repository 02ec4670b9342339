use Rattle.std.proofs.lemmas.Result.{on_ok_weaker}
use Rattle.ss_code_generator.proofs.Noticing.{variable_named, attribute_named, count_named}
use Rattle.ss_code_generator.proofs.generator.Generator.name_notice.Goals as goal

pub returns-in-Variable : goal.returns-in-Variable
returns-in-Variable c = rw c.in-Variable.is (on_ok_weaker c.take.result (variable_named c.args.to c.in-Variable.field-0) (rw c.in-Variable.is at c.take.ensures))

pub returns-in-Attribute : goal.returns-in-Attribute
returns-in-Attribute c = rw c.in-Attribute.is (on_ok_weaker c.put.result (attribute_named c.args.to c.in-Attribute.attribute) (rw c.set_of.ensures at c.put.ensures))

pub returns-in-Count : goal.returns-in-Count
returns-in-Count c =
    rw c.in-Count.is (on_ok_weaker c.assign.result (count_named c.args.to c.in-Count.field-0 c.in-Count.field-1 c.above.ensures.line c.above.ensures.height) (rw c.in-Count.is at c.assign.ensures))
