use Rattle.std.proofs.Common.{ap, ◌∙◌}
use Rattle.ss_names_scopes.specs.Locals.{locals, uses_seen}
use Rattle.ss_names_scopes.proofs.Finding.{mapped_after}
use Rattle.ss_names_scopes.proofs.locals.all_locals.Goals as goal

pub loop-uses-preserved : goal.loop-uses-preserved
loop-uses-preserved c =
    mapped_after uses_seen (locals c.args.names.now) c.args.all.now c.loop-uses.uses-index c.uses-item.result _ _ _
    c.loop-uses-test.true c.uses-item.is c.loop-uses.invariant
    (c.in_ok-locals.ensures ∙ ap (locals c.args.names.now) c.deref.ensures.value) c.in_ok-push.ensures.items
