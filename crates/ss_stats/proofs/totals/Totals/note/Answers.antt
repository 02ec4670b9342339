use Rattle.std.proofs.Common.{rules, ◌≡◌, pos, ◌+ℤ◌, ◌≤ℤ◌, FitsSigned, ◌∙◌, ap, sym, refl, to_z, of_z, w64, arith}
use Rattle.std.specs.Int.{w128}
use Rattle.std.proofs.lemmas.Int.{ints, to_z-of_z}
use Rattle.ss_stats.specs.declared.totals.Weighing.TheVariants.{Once, ByTime}
use Rattle.ss_stats.specs.History.{exact_sum_of, maximum_of, minimum_of, with_noted_value}
use Rattle.ss_stats.specs.Summary.{last_given}
use Rattle.ss_stats.proofs.Noting.{once_noted, once_sum_noted, once_outcome, by_time_noted, by_time_sum_noted, by_time_outcome, agreeing}
use Rattle.ss_stats.proofs.totals.Totals.note.Goals as goal
use Rattle.ss_stats.proofs.totals.Totals.note.Goals.{in-Once+else-number-eq-TALLY_LIMIT, in-ByTime}

pub overflow_add-weighing-in-Once : goal.overflow_add-weighing-in-Once
overflow_add-weighing-in-Once c =
    let i = rw c.in-Once.is at c.self.invariant in
    let k = sym (ap (λ t. t.weighing) c.self.view_is) ∙ c.in-Once.is in
    let l = rw k at c.exact_sum-until_now.ensures.low in
    let m = rw k at c.exact_sum-until_now.ensures.high in omega (arith, ints, l, m)

pub invariant_of-self : goal.invariant_of-self
invariant_of-self c =
    let view = sym (ap (λ t. t.weighing) c.self.view_is) in elim c.match-self.branch [
      | in-Once+else-number-eq-TALLY_LIMIT w ↦ (
          let i = rw w.in-Once.is at c.self.invariant in
          let l = rw (view ∙ w.in-Once.is) at c.exact_sum-until_now.ensures.low in
          let m = rw (view ∙ w.in-Once.is) at c.exact_sum-until_now.ensures.high in rw w.weighing-is (record {
            weighed = (omega (arith, ints), omega (arith, ints));
            low = omega (arith, ints, l);
            high = omega (arith, ints, m);
          })
          )
      | in-ByTime w ↦ (
          let i = rw w.in-ByTime.is at c.self.invariant in
          let n : last_given c.self.inside.weighing ≤ℤ c.args.now = rw (ap (λ t. t.last_moment) c.self.view_is) c.requires in
          let b = rw w.in-ByTime.is at n in
          let l = rw (view ∙ w.in-ByTime.is) at c.exact_sum-until_now.ensures.low in
          let m = rw (view ∙ w.in-ByTime.is) at c.exact_sum-until_now.ensures.high in rw w.weighing-is (record {
            weighed = (omega (arith, ints), omega (arith, ints, b));
            low = omega (arith, ints, l);
            high = omega (arith, ints, m);
          })
          )
    ]

pub returns-clause-noted : goal.returns-clause-noted
returns-clause-noted c h is_summary =
    let view = sym (ap (λ t. t.weighing) c.self.view_is) in
    let kind = sym (ap (λ t. t.weighing) (c.self.view_is ∙ is_summary)) in
    let n : to_z w64 (of_z w64 c.args.now) ≡ c.args.now = omega (arith, ints) in
    let v : to_z w64 (of_z w64 c.args.value) ≡ c.args.value = omega (arith, ints) in
    let s : c.exact_sum-until_now.result ≡ exact_sum_of h c.args.now = rw n at (c.exact_sum-until_now.ensures.value h is_summary) in
    let f : FitsSigned w64 c.extremes_with-maximum.result.0 = search rules in
    let g : FitsSigned w64 c.extremes_with-maximum.result.1 = search rules in
    let a : to_z w64 (of_z w64 c.extremes_with-maximum.result.0) ≡ maximum_of (with_noted_value h c.args.now c.args.value) = to_z-of_z w64 _ f ∙ rw v at (c.extremes_with-maximum.ensures.maximum h c.args.now is_summary) in
    let b : to_z w64 (of_z w64 c.extremes_with-maximum.result.1) ≡ minimum_of (with_noted_value h c.args.now c.args.value) = to_z-of_z w64 _ g ∙ rw v at (c.extremes_with-maximum.ensures.minimum h c.args.now is_summary) in
    elim c.match-self.branch [
      | in-Once+else-number-eq-TALLY_LIMIT w ↦ (
          let k = kind ∙ w.in-Once.is in
          let i = rw w.in-Once.is at c.self.invariant in
          let q : to_z w64 (of_z w64 (to_z w64 (of_z w64 w.in-Once.number) +ℤ pos 1)) ≡ w.in-Once.number +ℤ pos 1 = omega (arith, ints) in
          let p = ap (λ p. p.0) w.weighing-is ∙ ap Once q ∙ sym (once_noted h _ c.args.now c.args.value k) in
          let l = rw (view ∙ w.in-Once.is) at c.exact_sum-until_now.ensures.low in
          let m = rw (view ∙ w.in-Once.is) at c.exact_sum-until_now.ensures.high in
          let x : c.match-self.weighing.1 ≡ c.exact_sum-until_now.result +ℤ c.args.value = ap (λ p. p.1) w.weighing-is ∙ omega (arith, ints, l, m) in
          let y : FitsSigned w128 (c.exact_sum-until_now.result +ℤ c.args.value) = omega (arith, ints, l, m) in
          let z : to_z w128 (of_z w128 c.match-self.weighing.1) ≡ c.exact_sum-until_now.result +ℤ c.args.value = rw x (to_z-of_z w128 _ y) in
          agreeing _ _ _ _ _ p (z ∙ ap (λ t. t +ℤ c.args.value) s ∙ sym (once_sum_noted h _ c.args.now c.args.value k)) a b
          )
      | in-ByTime w ↦ (
          let k = kind ∙ w.in-ByTime.is in
          let f : FitsSigned w64 w.in-ByTime.start = search rules in
          let r : ByTime (to_z w64 (of_z w64 w.in-ByTime.start)) (to_z w64 (of_z w64 c.args.now)) (to_z w64 (of_z w64 c.args.value)) ≡ ByTime w.in-ByTime.start c.args.now c.args.value = rw (n, v, to_z-of_z w64 _ f) refl in
          let p = ap (λ p. p.0) w.weighing-is ∙ r ∙ sym (by_time_noted h _ _ _ c.args.now c.args.value k) in
          let x = ap (λ p. p.1) w.weighing-is in
          agreeing _ _ _ _ _ p (omega (arith, ints, x, s, by_time_sum_noted h _ _ _ c.args.now c.args.value k)) a b
          )
    ]

pub returns-clause-outcome : goal.returns-clause-outcome
returns-clause-outcome c h is_summary =
    let kind = sym (ap (λ t. t.weighing) (c.self.view_is ∙ is_summary)) in elim c.match-self.branch [
      | in-Once+else-number-eq-TALLY_LIMIT w ↦ (let i = rw w.in-Once.is at c.self.invariant in sym (once_outcome h _ (kind ∙ w.in-Once.is) (omega (arith, ints))))
      | in-ByTime w ↦ sym (by_time_outcome h _ _ _ (kind ∙ w.in-ByTime.is))
    ]
