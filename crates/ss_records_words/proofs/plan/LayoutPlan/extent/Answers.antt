use Rattle.std.proofs.Common.{subst}
use Rattle.ss_records_words.specs.Plans.{IsPlan}
use Rattle.ss_records_words.proofs.Planning.{extent_is, extent_within}
use Rattle.ss_records_words.proofs.plan.LayoutPlan.extent.Goals as goal

pub returns : goal.returns
returns c =
    let P = subst (λ l. IsPlan l c.self.inside.classes.items c.self.inside.sets.items c.self.inside.system_sets) c.self.view_is c.self.invariant in
    let is = extent_is P c.args.class _ c.requires c.index.ensures in
    record { is = is; bound = extent_within P.small c.args.class is }
