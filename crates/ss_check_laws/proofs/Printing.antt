-- PRINT: each item is such as its field takes, and there are as many as fields.
use Rattle.std.proofs.Common.{◌≡◌, Bool, true, false, List, [], ◌∷◌, length, Option, refl, sym, subst, arith, eqb-true, take_all}
use Rattle.std.specs.Prelude.{◌==◌}
use Rattle.ss_check_laws.proofs.Common.{AllZip, AreValid, each, ExpressionTree, Field, IsLinked, item, Line, none-some, PrintItem, Scope}
use Rattle.ss_program.specs.WellTyped.{TypedScope as Place, CanTakeItem}
use Rattle.ss_names_uses.specs.Uses as uses
use Rattle.ss_check_rules.specs.declared.error.CheckError.TheVariants as errors
use Rattle.ss_check_laws.proofs.Steps.{GoesWell, two_parts}
use Rattle.ss_check_laws.proofs.Lists.{in_order}
use Rattle.ss_check_laws.proofs.Items.{items_resolve}

turned : {A B : Type 0} (Q : A → B → Type 0) (xs : List A) (ys : List B) → AllZip Q xs ys → AllZip (λ y x. Q x y) ys xs
turned Q [] [] h = tt
turned Q (x ∷ xs) (y ∷ ys) h = (h.0, turned Q xs ys h.1)
turned Q _ _ h = absurd h

fits : (s : Scope) (in_main : Bool) (line : Line) (b : Bool) → AreValid s in_main (uses.of_fit line b) → b ≡ true
fits s in_main line true k = refl
fits s in_main line false k = absurd (none-some (errors.Fields line) (sym k.0))

module _ (s : Scope) (g : Place) (linked : IsLinked s g) (line : Line) where
  -- a field takes an item
  abbrev Shown : PrintItem → Field → Type 0
  Shown x field = CanTakeItem g field x

  pub items_shown : (items : List ExpressionTree) (fields : List Field) → AreValid s g.is_main (uses.in_items line items fields) → GoesWell (AllZip (CanTakeItem g) fields) (each (item s) items)
  items_shown items fields k =
      let p = two_parts s g.is_main (uses.of_fit line (length items == length fields)) (uses.in_places (uses.in_item_at line fields) 0 items) k in
      let long : length items ≡ length fields = eqb-true (length items) (length fields) (fits s g.is_main line (length items == length fields) p.0) in
      let xs = in_order s g.is_main (item s) (uses.in_item_at line fields) Shown items fields
      (λ i e field f h.
      let q = two_parts s g.is_main (uses.in_field_at line fields i e) (uses.in_item line e) h in
      items_resolve s g linked line field e (subst (λ (o : Option Field). AreValid s g.is_main (uses.in_option (uses.in_field line e) o)) f q.0) q.1)
      (omega (arith, long)) p.1 in
      (xs.0, xs.1, turned Shown xs.0 fields (subst (AllZip Shown xs.0) (take_all (length items) fields (omega (arith, long))) xs.2.1))
