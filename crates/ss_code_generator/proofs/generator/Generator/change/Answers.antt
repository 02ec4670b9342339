use Rattle.ss_code_generator.proofs.Common.{on_ok_weaker, view_expression}
use Rattle.ss_code_generator.proofs.Letting.{change_of_variable, attribute_changed, change_of_count}
use Rattle.ss_code_generator.proofs.generator.Generator.change.Goals as goal

pub returns-in_ok-variable-in-ToVariable : goal.returns-in_ok-variable-in-ToVariable
returns-in_ok-variable-in-ToVariable c =
    rw c.in-ToVariable.is (on_ok_weaker c.change_variable.result (change_of_variable c.args.sign (view_expression c.args.value.now) c.in_ok-variable-in-ToVariable.ensures) c.change_variable.ensures)

pub returns-in_ok-spot-in-ToAttribute : goal.returns-in_ok-spot-in-ToAttribute
returns-in_ok-spot-in-ToAttribute c =
    rw c.in-ToAttribute.is (on_ok_weaker c.put.result (attribute_changed c.args.sign c.in_ok-by-in-ToAttribute.ensures c.above-above.ensures.line c.above-above.ensures.height c.in_ok-spot-in-ToAttribute.ensures) (rw c.change_of.ensures at c.put.ensures))

pub returns-in_ok-as_index-in-ToCount : goal.returns-in_ok-as_index-in-ToCount
returns-in_ok-as_index-in-ToCount c =
    rw c.in-ToCount.is (on_ok_weaker c.change_variable-in-ToCount.result (change_of_count c.args.sign c.in-ToCount.count (view_expression c.args.value.now) c.in_ok-as_index-in-ToCount.ensures c.in_ok-variable-in-ToCount.ensures) c.change_variable-in-ToCount.ensures)
