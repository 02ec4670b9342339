use Rattle.std.proofs.Common.{◌≡◌, ℕ, ◌+◌, ◌≤◌, length, slice_get, Some, refl, sym, ap, subst, ◌∙◌, arith}
use Rattle.ss_records_entities.proofs.Indexing.{of_row}
use Rattle.ss_records_entities.proofs.Living.{made_drop, made_step}
use Rattle.ss_records_blocks.proofs.Placings.{place_at}
use Rattle.ss_records_entities.proofs.records.give_rows_back.Goals as goal

past : (x y : ℕ) → x + 1 ≤ y → x ≡ y → ⊥
past x y h e = omega (arith, h, e)

pub loop-class-init : goal.loop-class-init
loop-class-init c = record { kept = λ b j ps p h m g. refl; system = refl; count = c.requires.held.counted }

pub give_places_back-requires-clause-size : goal.give_places_back-requires-clause-size
give_places_back-requires-clause-size c = λ i p g.
    let row = place_at c.args.permanents.now c.loop-class.class c.index-permanents-class.result c.loop-class-test.true ∙ ap Some (sym c.index-permanents-class.is) in
    let o = of_row (Some c.index-permanents-class.result) i p (subst (λ ps. slice_get ps i ≡ Some p) c.places-places.ensures g) in
    ap length (c.loop-class.invariant.kept c.loop-class.class i o.0 p (omega arith) (row ∙ o.1) o.2) ∙ c.requires.held.size c.loop-class.class i o.0 p (row ∙ o.1) o.2 ∙ sym c.block_words-words.ensures.size

pub give_places_back-requires-clause-apart : goal.give_places_back-requires-clause-apart
give_places_back-requires-clause-apart c = λ i j p q g h z.
    let row = place_at c.args.permanents.now c.loop-class.class c.index-permanents-class.result c.loop-class-test.true ∙ ap Some (sym c.index-permanents-class.is) in
    let o = of_row (Some c.index-permanents-class.result) i p (subst (λ ps. slice_get ps i ≡ Some p) c.places-places.ensures g) in
    let u = of_row (Some c.index-permanents-class.result) j q (subst (λ ps. slice_get ps j ≡ Some q) c.places-places.ensures h) in
    (c.requires.held.apart c.loop-class.class c.loop-class.class i j o.0 u.0 p q (row ∙ o.1) (row ∙ u.1) o.2 u.2 z).0

pub loop-class-preserved : goal.loop-class-preserved
loop-class-preserved c =
    let row = place_at c.args.permanents.now c.loop-class.class c.index-permanents-class.result c.loop-class-test.true ∙ ap Some (sym c.index-permanents-class.is) in
    let h = c.loop-class.invariant in let n = c.loop-class.class in
    record {
      kept = λ b j ps p less m k. c.give_places_back.ensures.others p.at (λ i q g z.
          let o = of_row (Some c.index-permanents-class.result) i q (subst (λ us. slice_get us i ≡ Some q) c.places-places.ensures g) in
          past n b less (c.requires.held.apart n b i j o.0 ps q p (row ∙ o.1) m o.2 k z).1)
          ∙ h.kept b j ps p (omega (arith, less)) m k;
      system = c.give_places_back.ensures.others c.args.system.at (λ i q g z.
          let o = of_row (Some c.index-permanents-class.result) i q (subst (λ us. slice_get us i ≡ Some q) c.places-places.ensures g) in
          c.requires.held.off_system i q (n, o.0, row ∙ o.1, o.2) z)
          ∙ h.system;
      count = omega (arith, h.count, c.give_places_back.ensures.count, ap length c.places-places.ensures, made_step c.args.permanents.now n c.index-permanents-class.result row);
    }

pub returns-clause-system : goal.returns-clause-system
returns-clause-system c = c.loop-class.invariant.system

pub returns-clause-count : goal.returns-clause-count
returns-clause-count c = let none = made_drop c.args.permanents.now c.loop-class.class (omega (arith, c.loop-class-test.false)) in omega (arith, c.loop-class.invariant.count, none)
