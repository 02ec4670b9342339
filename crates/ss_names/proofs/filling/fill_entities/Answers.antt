use Rattle.std.proofs.Common.{sym, subst, take}
use Rattle.ss_names.specs.Filling.{HasRows}
use Rattle.ss_names.proofs.Passes.{rows_stay}
use Rattle.ss_names.proofs.filling.fill_entities.Goals as goal

pub add_entities-requires : goal.add_entities-requires
add_entities-requires c =
    subst HasRows (sym c.loop-declaration.invariant)
    (rows_stay c.args.names.now (take c.loop-declaration.declaration-index c.args.declarations.now) c.requires)
