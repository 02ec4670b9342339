use Rattle.std.proofs.Common.{◌≡◌, sym, ap, ◌∙◌, to_z, of_z, w64, arith}
use Rattle.ss_stats_histories.proofs.Common.{columns_of, ints, ltb-true, mean_in, Records, slice_get_past, sure}
use Rattle.ss_stats_histories.proofs.Tables.{at_index}
use Rattle.ss_stats_histories.proofs.Noted.{mean_there, mean_nowhere}
use Rattle.ss_stats_histories.proofs.histories.Histories.mean.Goals as goal

pub returns-in-Some-clause-value : goal.returns-in-Some-clause-value
returns-in-Some-clause-value c =
    let n : to_z w64 (of_z w64 c.args.now) ≡ c.args.now = omega (arith, ints) in
    let x : to_z w64 (of_z w64 c.args.entity) ≡ c.args.entity = omega (arith, ints) in
    let g = rw c.deref.ensures.value at c.in-Some.ensures.lookup in
    let e = rw (n, x) at c.mean.ensures.value in
    sym (ap (λ (r : Records). mean_in c.args.statistic c.args.entity c.args.now (columns_of r.rows)) c.self.view_is) ∙
    mean_there c.args.entity c.args.now c.self.inside.kept.items c.args.statistic c.in-Some.kept.now (at_index c.self.inside.kept.items c.args.statistic c.in-Some.kept.now (ltb-true _ _ (sym g.0)) g.1) ∙ sym (ap sure e)

pub returns-in-None-clause-value : goal.returns-in-None-clause-value
returns-in-None-clause-value c =
    let g = rw c.deref.ensures.value at c.in-None.ensures.lookup in
    sym (ap (λ (r : Records). mean_in c.args.statistic c.args.entity c.args.now (columns_of r.rows)) c.self.view_is) ∙
    mean_nowhere c.args.entity c.args.now c.self.inside.kept.items c.args.statistic (slice_get_past c.self.inside.kept.items c.args.statistic g.3)
