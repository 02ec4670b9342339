use Rattle.std.proofs.Common.{rules, subst}
use Rattle.ss_records_words.specs.Plans.{IsPlan}
use Rattle.ss_records_words.proofs.Common.{get_there}
use Rattle.ss_records_words.proofs.Planning.{set_within, bases_are, bases_within}
use Rattle.ss_records_words.proofs.plan.LayoutPlan.bases.Goals as goal

pub index-requires : goal.index-requires
index-requires c =
    let P = subst (λ l. IsPlan l c.self.inside.classes.items c.self.inside.sets.items c.self.inside.system_sets) c.self.view_is c.self.invariant in
    let h = set_within P c.args.s c.requires in
    search rules

pub returns : goal.returns
returns c =
    let P = subst (λ l. IsPlan l c.self.inside.classes.items c.self.inside.sets.items c.self.inside.system_sets) c.self.view_is c.self.invariant in
    let y = get_there c.args.self.now.sets c.args.s c.requires in
    record { is = λ t g. bases_are P c.args.s t _ g c.index.ensures; says = bases_within P.small c.args.s y.0 y.1 (bases_are P c.args.s y.0 _ y.1 c.index.ensures) }
