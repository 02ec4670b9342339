use Rattle.std.proofs.Common.{◌≡◌, sym, ◌∙◌, to_z, of_z, w64, arith}
use Rattle.ss_stats_histories.proofs.Common.{ints, ltb-true, slice_get_past}
use Rattle.ss_stats_histories.proofs.Tables.{at_index}
use Rattle.ss_stats_histories.proofs.Fullness.{has_there, has_nowhere}
use Rattle.ss_stats_histories.proofs.each.has_at.Goals as goal

pub returns-in-Some : goal.returns-in-Some
returns-in-Some c =
    let x : to_z w64 (of_z w64 c.args.entity) ≡ c.args.entity = omega (arith, ints) in
    let g = c.in-Some.ensures.lookup in
    let e = rw x at c.has.ensures in
    e ∙ sym (has_there c.args.entity c.args.kept.now c.args.place c.in-Some.kept.now (at_index c.args.kept.now c.args.place c.in-Some.kept.now (ltb-true _ _ (sym g.0)) g.1))

pub returns-in-None : goal.returns-in-None
returns-in-None c =
    sym (has_nowhere c.args.entity c.args.kept.now c.args.place (slice_get_past c.args.kept.now c.args.place c.in-None.ensures.lookup.3))
