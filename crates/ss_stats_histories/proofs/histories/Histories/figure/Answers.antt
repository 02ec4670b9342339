use Rattle.std.proofs.Common.{◌≡◌, sym, ap, ◌∙◌, to_z, of_z, w64, arith}
use Rattle.ss_stats_histories.proofs.Common.{columns_of, figured, folded, history_of_subject, if_ok, ints, ltb-true, Records, slice_get_past}
use Rattle.ss_stats_histories.proofs.Tables.{at_index}
use Rattle.ss_stats_histories.proofs.Noted.{figure_there, figure_nowhere}
use Rattle.ss_stats_histories.proofs.histories.Histories.figure.Goals as goal

pub returns-in-Some : goal.returns-in-Some
returns-in-Some c =
    let n : to_z w64 (of_z w64 c.args.now) ≡ c.args.now = omega (arith, ints) in
    let x : to_z w64 (of_z w64 c.args.entity) ≡ c.args.entity = omega (arith, ints) in
    let g = rw c.deref.ensures.value at c.in-Some.ensures.lookup in
    let e = rw (n, x) at c.figure.ensures in
    sym (ap (λ (r : Records). if_ok (history_of_subject c.args.statistic c.args.entity (columns_of r.rows)) (folded c.args.fold c.args.now)) c.self.view_is) ∙
    figure_there c.args.fold c.args.entity c.args.now c.self.inside.kept.items c.args.statistic c.in-Some.kept.now (at_index c.self.inside.kept.items c.args.statistic c.in-Some.kept.now (ltb-true _ _ (sym g.0)) g.1) ∙ sym (ap figured e)

pub returns-in-None : goal.returns-in-None
returns-in-None c =
    let g = rw c.deref.ensures.value at c.in-None.ensures.lookup in
    sym (ap (λ (r : Records). if_ok (history_of_subject c.args.statistic c.args.entity (columns_of r.rows)) (folded c.args.fold c.args.now)) c.self.view_is) ∙
    figure_nowhere c.args.fold c.args.entity c.args.now c.self.inside.kept.items c.args.statistic (slice_get_past c.self.inside.kept.items c.args.statistic g.3)
