use Rattle.ss_code_generator.proofs.Common.{must_look, on_ok_weaker, view_expression}
use Rattle.ss_code_generator.proofs.Spotted.{attribute_looked}
use Rattle.ss_code_generator.proofs.Letting.{let_of_variable, let_of_attribute, let_of_count}
use Rattle.ss_code_generator.proofs.generator.Generator.assignment.Goals as goal

pub returns-in_ok-spot-in-ToVariable : goal.returns-in_ok-spot-in-ToVariable
returns-in_ok-spot-in-ToVariable c =
    rw c.in-ToVariable.is (on_ok_weaker c.let_variable.result (let_of_variable (view_expression c.args.value.now) c.in_ok-spot-in-ToVariable.ensures) c.let_variable.ensures)

pub returns-in_ok-from-in-ToAttribute : goal.returns-in_ok-from-in-ToAttribute
returns-in_ok-from-in-ToAttribute c =
    let x = c.in-ToAttribute in
    let looked = attribute_looked (must_look x.class (view_expression x.of) (view_expression c.args.value.now)) c.in_ok-spot-in-ToAttribute.ensures (rw c.must_look.ensures at c.in_ok-look_if-in-ToAttribute.ensures) in
    rw x.is (on_ok_weaker c.put.result (let_of_attribute looked c.above.ensures.line c.above.ensures.height c.in_ok-from-in-ToAttribute.ensures) (rw c.set_of.ensures at c.put.ensures))

pub returns-in_ok-from-in-ToCount : goal.returns-in_ok-from-in-ToCount
returns-in_ok-from-in-ToCount c =
    let s = c.in_ok-spot-in-ToCount in
    rw c.in-ToCount.is (on_ok_weaker c.assign.result (let_of_count c.in-ToCount.count s.spot s.ensures c.in_ok-from-in-ToCount.ensures c.above-in-ToCount.ensures.line c.above-in-ToCount.ensures.height) c.assign.ensures)
