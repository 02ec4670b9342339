-- Fields that take items.
use Rattle.std.proofs.Common.{◌≡◌, ℕ, ◌+◌, ◌<◌, Bool, true, false, ◌&&◌, List, [], ◌∷◌, ◌++◌, length, get_or, take, drop, min, refl, sym, ap, ◌∙◌, subst}
use Rattle.ss_machine.proofs.Common.{AllByRecursion, drop_min, drop_more, flat_map, Is, IsPrintable, Item, Mean, picture_fields, take_min}
use Rattle.std.proofs.lemmas.Bool.{eqb-true, leb-true}
use Rattle.ss_picture.specs.declared.field.Field.{Field}
use Rattle.ss_picture.specs.Suited.{IsSuitedItem, AreSuitedItems}
use Rattle.ss_meaning.specs.Values.{takes, take_all}

-- ## One picture more

pub one_picture : (ps : List (List ℕ)) (i : ℕ) (p : List ℕ) → i < length ps → p ≡ get_or ps i p → flat_map picture_fields (drop i ps) ≡ picture_fields p ++ flat_map picture_fields (drop (i + 1) ps)
one_picture ps i p lt is = ap (flat_map picture_fields) (drop_more ps i p lt ∙ ap (λ x. x ∷ drop (i + 1) ps) (sym is))

-- ## Items that suit their fields

pub first_true : (a b : Bool) → (a && b) ≡ true → a ≡ true
first_true true b e = refl
first_true false b e = absurd cc

pub then_true : (a b : Bool) → (a && b) ≡ true → b ≡ true
then_true true b e = e
then_true false b e = absurd cc

suits : (f : Field) (x : Item) → takes f x ≡ true → IsPrintable x → IsSuitedItem f.decimals x
suits f (Is v) t p = eqb-true f.decimals 0 t
suits f (Mean sum number) t p = (leb-true f.decimals 9 t, p)

pub each_suits : (fields : List Field) (items : List Item) → take_all fields items ≡ true → AllByRecursion IsPrintable items → AreSuitedItems fields items
each_suits [] [] t p = tt
each_suits [] (x ∷ xs) t p = tt
each_suits (f ∷ fields) [] t p = tt
each_suits (f ∷ fields) (x ∷ xs) t p = (suits f x (first_true (takes f x) (take_all fields xs) t) p.0, each_suits fields xs (then_true (takes f x) (take_all fields xs) t) p.1)

-- those of the first fields, and those after them
suits_front : (fields more : List Field) (items : List Item) → AreSuitedItems (fields ++ more) items → AreSuitedItems fields (take (length fields) items)
suits_front [] more items h = tt
suits_front (f ∷ fields) more [] h = tt
suits_front (f ∷ fields) more (x ∷ xs) h = (h.0, suits_front fields more xs h.1)

suits_back : (fields more : List Field) (items : List Item) → AreSuitedItems (fields ++ more) items → AreSuitedItems more (drop (length fields) items)
suits_back [] more items h = h
suits_back (f ∷ fields) more [] h = tt
suits_back (f ∷ fields) more (x ∷ xs) h = suits_back fields more xs h.1

module _ (ps : List (List ℕ)) (i : ℕ) (p : List ℕ) (xs : List Item) (count : ℕ) (lt : i < length ps) (is : p ≡ get_or ps i p) (e : count ≡ min (length (picture_fields p)) (length xs)) (h : AreSuitedItems (flat_map picture_fields (drop i ps)) xs) where
  parted : AreSuitedItems (picture_fields p ++ flat_map picture_fields (drop (i + 1) ps)) xs
  parted = subst (λ fs. AreSuitedItems fs xs) (one_picture ps i p lt is) h

  -- the items of the next picture, and those of the others
  pub now_suits : AreSuitedItems (picture_fields p) (take count xs)
  now_suits = subst (AreSuitedItems (picture_fields p)) (sym (ap (λ k. take k xs) e ∙ take_min (length (picture_fields p)) xs)) (suits_front (picture_fields p) (flat_map picture_fields (drop (i + 1) ps)) xs parted)

  pub later_suits : AreSuitedItems (flat_map picture_fields (drop (i + 1) ps)) (drop count xs)
  later_suits = subst (AreSuitedItems (flat_map picture_fields (drop (i + 1) ps))) (sym (ap (λ k. drop k xs) e ∙ drop_min (length (picture_fields p)) xs)) (suits_back (picture_fields p) (flat_map picture_fields (drop (i + 1) ps)) xs parted)
