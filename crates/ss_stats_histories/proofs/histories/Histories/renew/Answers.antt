use Rattle.std.proofs.Common.{◌≡◌, ℤ, pos, ◌≤ℤ◌, ◌++◌, subst, length, map, take, drop, Ok, sym, ap, ◌∙◌, refl, to_z, of_z, w64, arith}
use Rattle.ss_stats_histories.proofs.Common.{changed_at, columns_of, ints, Records, renewed, renewed_one, shown}
use Rattle.ss_stats_histories.proofs.Columns.{whole}
use Rattle.ss_stats_histories.proofs.Noted.{seconds, renewed_there, renewed_nowhere, renewed_statistics}
use Rattle.ss_stats_histories.proofs.histories.Histories.renew.Goals as goal

pub returns-then-not-has_at-clause-renewed : goal.returns-then-not-has_at-clause-renewed
returns-then-not-has_at-clause-renewed c =
    let ks = c.self.inside.kept.items in
    let x : to_z w64 (of_z w64 c.args.entity) ≡ c.args.entity = omega (arith, ints) in
    let h = rw (c.deref.ensures.value, x) at c.has_at.ensures in
    sym (ap (λ (r : Records). renewed c.args.statistic c.args.entity c.args.now c.args.present (columns_of r.rows)) c.self.view_is) ∙
    ap (renewed c.args.statistic c.args.entity c.args.now c.args.present) (seconds ks (map shown ks) refl) ∙
    renewed_nowhere c.args.entity c.args.now c.args.present (map shown ks) c.args.statistic (sym h ∙ c.if-not-has_at.true)

-- all that is kept then, and what is seen of it
all_kept : (c : goal.After-self-2-1) → take c.self.inside.kept.len (c.renew_at.new.kept ++ drop (length c.renew_at.new.kept) c.self.inside.kept.items) ≡ c.renew_at.new.kept
all_kept c = let v = c.deref_mut.ensures.value in whole c.self.inside.kept.len c.renew_at.new.kept c.self.inside.kept.items (sym c.deref_mut.ensures.len ∙ ap length v) (c.renew_at.auto.kept ∙ ap length v)

shown_then : (c : goal.After-self-2-1) → map shown c.renew_at.new.kept ≡ changed_at (renewed_one c.args.entity c.args.now c.args.present) (map shown c.self.inside.kept.items) c.args.statistic
shown_then c =
    let v = c.deref_mut.ensures.value in
    let n : to_z w64 (of_z w64 c.args.now) ≡ c.args.now = omega (arith, ints) in
    let x : to_z w64 (of_z w64 c.args.entity) ≡ c.args.entity = omega (arith, ints) in
    let z : to_z w64 (of_z w64 c.args.present) ≡ c.args.present = omega (arith, ints) in
    rw (v, n, x, z) at c.renew_at.ensures.shown

pub invariant_of-self : goal.invariant_of-self
invariant_of-self c =
    let ks = c.self.inside.kept.items in let ns = c.renew_at.new.kept in let s = shown_then c in
    let n : to_z w64 (of_z w64 c.args.now) ≡ c.args.now = omega (arith, ints) in
    let o : pos 0 ≤ℤ c.args.self.now.latest = subst (λ (r : ℤ). pos 0 ≤ℤ r) (ap (λ (r : Records). r.latest) c.self.view_is) c.self.invariant.1 in
    rw (all_kept c) (
      c.self.invariant.0 ∙ sym (renewed_statistics c.args.entity c.args.now c.args.present c.args.statistic ks ns s),
      omega (arith, ints, o, c.requires.le),
      c.renew_at.ensures.until,
    )

pub returns-clause-renewed : goal.returns-clause-renewed
returns-clause-renewed c =
    let ks = c.self.inside.kept.items in let ns = c.renew_at.new.kept in let s = shown_then c in
    let x : to_z w64 (of_z w64 c.args.entity) ≡ c.args.entity = omega (arith, ints) in
    let h = rw (c.deref.ensures.value, x) at c.has_at.ensures in
    rw (all_kept c) (sym (ap (λ (r : Records). renewed c.args.statistic c.args.entity c.args.now c.args.present (columns_of r.rows)) c.self.view_is) ∙
    ap (renewed c.args.statistic c.args.entity c.args.now c.args.present) (seconds ks (map shown ks) refl) ∙
    renewed_there c.args.entity c.args.now c.args.present (map shown ks) c.args.statistic (sym h ∙ c.if-not-has_at.false) ∙
    ap Ok (sym (seconds ns (changed_at (renewed_one c.args.entity c.args.now c.args.present) (map shown ks) c.args.statistic) s)))

pub returns-clause-statistics : goal.returns-clause-statistics
returns-clause-statistics c =
    let ks = c.self.inside.kept.items in let ns = c.renew_at.new.kept in let s = shown_then c in
    rw (all_kept c) (renewed_statistics c.args.entity c.args.now c.args.present c.args.statistic ks ns s ∙ ap (λ (r : Records). r.statistics) c.self.view_is)
