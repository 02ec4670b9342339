use Rattle.std.proofs.Common.{◌≡◌, ◌++◌, arith}
use Rattle.std.proofs.lemmas.Grind.{common_steps}
use Rattle.ss_names_declarations.proofs.Common.{in_definition, view_definition}
use Rattle.ss_names_declarations.proofs.declarations.add_definitions.Goals as goal

pub loop-definition-preserved : goal.loop-definition-preserved
loop-definition-preserved c =
    let more : c.add_names.new.out.items ≡ c.loop-definition.out.items ++ in_definition c.args.section (view_definition c.definition-item.result) = rw c.deref.ensures.value at c.in_ok-add_names.ensures in
    grind (arith, common_steps)
