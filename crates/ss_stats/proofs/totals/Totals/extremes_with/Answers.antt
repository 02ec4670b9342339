use Rattle.std.proofs.Common.{rules, ◌≡◌, true, false, refl, sym, ap, ◌∙◌, FitsSigned, to_z, of_z, w64, arith}
use Rattle.std.specs.Int.{int_max, int_min}
use Rattle.std.proofs.lemmas.Int.{ints, to_z-of_z}
use Rattle.ss_stats.specs.History.{maximum_of, minimum_of}
use Rattle.ss_stats.specs.Summary.{Summary}
use Rattle.ss_stats.proofs.Noting.{first_maximum, first_minimum, next_maximum, next_minimum}
use Rattle.ss_stats.proofs.totals.Totals.extremes_with.Goals as goal

not_true : false ≡ true → ⊥
not_true e = cc

pub returns-then-is_empty-clause-maximum : goal.returns-then-is_empty-clause-maximum
returns-then-is_empty-clause-maximum c h now is_summary =
    let v : to_z w64 (of_z w64 c.args.value) ≡ c.args.value = omega (arith, ints) in
    v ∙ sym (first_maximum h now c.args.value (sym (ap (λ (t : Summary). t.weighing) is_summary) ∙ c.if-is_empty.ensures.0 refl))

pub returns-then-is_empty-clause-minimum : goal.returns-then-is_empty-clause-minimum
returns-then-is_empty-clause-minimum c h now is_summary =
    let v : to_z w64 (of_z w64 c.args.value) ≡ c.args.value = omega (arith, ints) in
    v ∙ sym (first_minimum h now c.args.value (sym (ap (λ (t : Summary). t.weighing) is_summary) ∙ c.if-is_empty.ensures.0 refl))

pub returns-else-is_empty-clause-maximum : goal.returns-else-is_empty-clause-maximum
returns-else-is_empty-clause-maximum c h now is_summary =
    let r : to_z w64 (of_z w64 c.max.result) ≡ c.max.result = omega (arith, ints, c.max.type_inv) in
    let v : to_z w64 (of_z w64 c.args.value) ≡ c.args.value = omega (arith, ints) in
    let f : FitsSigned w64 c.self.inside.maximum = search rules in
    let m : to_z w64 (of_z w64 c.self.inside.maximum) ≡ maximum_of h = to_z-of_z w64 _ f ∙ ap (λ (t : Summary). t.maximum) (c.self.view_is ∙ is_summary) in
    r ∙ c.max.ensures.value ∙ (λ i. int_max (m i) (v i))
    ∙ sym (next_maximum h now c.args.value (λ e. not_true (c.if-is_empty.ensures.1 (ap (λ (t : Summary). t.weighing) is_summary ∙ e))))

pub returns-else-is_empty-clause-minimum : goal.returns-else-is_empty-clause-minimum
returns-else-is_empty-clause-minimum c h now is_summary =
    let r : to_z w64 (of_z w64 c.min.result) ≡ c.min.result = omega (arith, ints, c.min.type_inv) in
    let v : to_z w64 (of_z w64 c.args.value) ≡ c.args.value = omega (arith, ints) in
    let f : FitsSigned w64 c.self.inside.minimum = search rules in
    let m : to_z w64 (of_z w64 c.self.inside.minimum) ≡ minimum_of h = to_z-of_z w64 _ f ∙ ap (λ (t : Summary). t.minimum) (c.self.view_is ∙ is_summary) in
    r ∙ c.min.ensures.value ∙ (λ i. int_min (m i) (v i))
    ∙ sym (next_minimum h now c.args.value (λ e. not_true (c.if-is_empty.ensures.1 (ap (λ (t : Summary). t.weighing) is_summary ∙ e))))
