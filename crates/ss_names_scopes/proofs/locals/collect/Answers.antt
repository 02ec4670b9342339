use Rattle.ss_names_scopes.specs.Locals.{local_used, moded_in}
use Rattle.ss_names_scopes.proofs.Entering.{mapped_firsts_after}
use Rattle.ss_names_scopes.proofs.locals.collect.Goals as goal

pub loop-one-preserved : goal.loop-one-preserved
loop-one-preserved c =
    mapped_firsts_after (moded_in c.args.names.now.usual c.args.modes.now) (local_used c.args.names.now) c.args.uses.now c.loop-one.one-index c.one-item.result _ _
    c.loop-one-test.true c.one-item.is c.loop-one.invariant c.in_ok-add_local.ensures
