use Rattle.std.proofs.Common.{rules, ◌≡◌, ◌-ℤ◌, ◌∙◌, ap, sym, FitsSigned, to_z, of_z, w64, arith}
use Rattle.std.proofs.lemmas.Int.{ints}
use Rattle.ss_stats.specs.Summary.{last_given}
use Rattle.ss_stats.proofs.Noting.{by_time_sum}
use Rattle.ss_stats.proofs.totals.Totals.exact_sum.Goals as goal

pub overflow_add-result : goal.overflow_add-result
overflow_add-result c = let i = rw c.in-ByTime.is at c.self.invariant in omega (arith, ints)

pub returns-in-ByTime-clause-value : goal.returns-in-ByTime-clause-value
returns-in-ByTime-clause-value c h is_summary =
    let i = rw c.in-ByTime.is at c.self.invariant in
    let l = sym (ap (λ t. t.last_moment) c.self.view_is) ∙ ap last_given c.in-ByTime.is in
    let f : FitsSigned w64 c.in-ByTime.value = search rules in
    let v : to_z w64 (of_z w64 c.in-ByTime.value) ≡ c.in-ByTime.value = omega (arith, ints) in
    let t : to_z w64 (of_z w64 (to_z w64 (of_z w64 c.args.now) -ℤ to_z w64 (of_z w64 c.in-ByTime.since))) ≡ c.args.now -ℤ c.in-ByTime.since = omega (arith, ints) in
    let p = rw (v, t) at c.weighed.ensures.product in
    let s = c.self.view_is ∙ is_summary in
    let k = sym (ap (λ t. t.weighing) s) ∙ c.in-ByTime.is in
    omega (arith, ints, p, ap (λ t. t.sum) s, by_time_sum h _ _ _ c.args.now k)

pub returns-in-ByTime-clause-low : goal.returns-in-ByTime-clause-low
returns-in-ByTime-clause-low c =
    let i = rw c.in-ByTime.is at c.self.invariant in
    let l = sym (ap (λ t. t.last_moment) c.self.view_is) ∙ ap last_given c.in-ByTime.is in
    let k = sym (ap (λ t. t.weighing) c.self.view_is) ∙ c.in-ByTime.is in rw k (omega (arith, ints))

pub returns-in-ByTime-clause-high : goal.returns-in-ByTime-clause-high
returns-in-ByTime-clause-high c =
    let i = rw c.in-ByTime.is at c.self.invariant in
    let l = sym (ap (λ t. t.last_moment) c.self.view_is) ∙ ap last_given c.in-ByTime.is in
    let k = sym (ap (λ t. t.weighing) c.self.view_is) ∙ c.in-ByTime.is in rw k (omega (arith, ints))
