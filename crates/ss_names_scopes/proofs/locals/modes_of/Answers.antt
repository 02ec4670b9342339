use Rattle.std.proofs.Common.{List, []}
use Rattle.ss_base.specs.declared.layout.Mode.{Mode}
use Rattle.ss_tree.specs.Names.{NameBytes}
use Rattle.ss_names_declarations.specs.NameTable.{with_first}
use Rattle.ss_names_uses.specs.declared.used.Use.{Use}
use Rattle.ss_names_scopes.specs.Locals.{defined_by}
use Rattle.ss_names_scopes.proofs.Finding.{found_after}
use Rattle.ss_names_scopes.proofs.locals.modes_of.Goals as goal

pub loop-one-preserved : goal.loop-one-preserved
loop-one-preserved c =
    let by : Use → List (NameBytes × Mode) = λ u. defined_by u.what in
    found_after with_first by [] _ _ c.args.uses.now c.loop-one.one-index c.one-item.result
    c.loop-one-test.true c.one-item.is c.loop-one.invariant c.in_ok-add_mode.ensures
