use Rattle.std.proofs.Common.{◌≡◌, pos, ◌≤ℤ◌, ◌+ℤ◌, int_eq, to_z, of_z, w64, ap, ◌∙◌, refl, arith}
use Rattle.ss_stats_histories.proofs.Common.{at_start, begun_in, column_of, ints, Statistic}
use Rattle.ss_stats_histories.proofs.Columns.{begun_more, counted, none_begun}
use Rattle.ss_stats_histories.proofs.kept.Kept.begin_all.Goals as goal

pub loop-entity-init : goal.loop-entity-init
loop-entity-init c = (
  refl,
  none_begun (pos 0) (at_start c.args.self.now.statistic.weighting (to_z w64 (of_z w64 c.args.now))) (column_of c.args.self.now.rows) _ (omega (arith, ints)) refl,
  omega (arith, ints, c.requires.room),
  omega (arith, ints),
  λ h. omega (arith, ints, h),
  λ h. omega (arith, ints),
)

pub begin-requires-clause-room : goal.begin-requires-clause-room
begin-requires-clause-room c = omega (arith, ints, c.loop-entity.invariant.2, c.loop-entity-test.true)

pub loop-entity-preserved : goal.loop-entity-preserved
loop-entity-preserved c =
    let i = to_z w64 c.loop-entity.entity-bits in
    let h = at_start c.args.self.now.statistic.weighting (to_z w64 (of_z w64 c.args.now)) in
    let low : pos 0 ≤ℤ i = c.loop-entity.invariant.3 in
    let next : to_z w64 (of_z w64 (i +ℤ pos 1)) ≡ (i +ℤ pos 1) = omega (arith, ints, low, c.loop-entity-test.true) in
    let d = rw next at c.begin.ensures.column in
    let e = d ∙ ap (λ (s : Statistic). begun_in (int_eq (i +ℤ pos 1)) (at_start s.weighting (to_z w64 (of_z w64 c.args.now))) (column_of c.loop-entity.self.rows)) c.loop-entity.invariant.0 in
    rw next (
      c.begin.ensures.statistic ∙ c.loop-entity.invariant.0,
      begun_more i h (column_of c.args.self.now.rows) _ _ low c.loop-entity.invariant.1 e,
      omega (arith, ints, c.loop-entity.invariant.2, c.begin.ensures.room),
      omega (arith, ints, low),
      λ l. omega (arith, ints, c.loop-entity-test.true),
      λ l. omega (arith, ints, c.loop-entity-test.true, l),
    )

pub returns-clause-column : goal.returns-clause-column
returns-clause-column c =
    let n : to_z w64 (of_z w64 c.args.now) ≡ c.args.now = omega (arith, ints) in
    let k : to_z w64 (of_z w64 c.args.count) ≡ c.args.count = omega (arith, ints) in
    let i = rw (n, k) at c.loop-entity.invariant in
    counted (to_z w64 c.loop-entity.entity-bits) c.args.count (at_start c.args.self.now.statistic.weighting c.args.now) (column_of c.args.self.now.rows) _
    (omega (arith, ints, c.loop-entity-test.false)) i.4 i.5 i.1
