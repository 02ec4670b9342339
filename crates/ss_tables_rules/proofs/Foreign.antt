-- A key is foreign to one of some classes exactly if the first of them isn't its own, or another is none of the first.
use Rattle.std.proofs.Common.{◌≡◌, ℕ, inl, inr, nat_eq, not, ◌||◌, Bool, true, false, List, [], ◌∷◌, map, Option, Some, None, refl, sym, ap, subst, ◌∙◌}
use Rattle.std.specs.List.{fold, list_any}
use Rattle.ss_tables_rules.proofs.Common.{is_foreign, is_foreign_to_any, member_named, NameBytes, option_or, Table}
use Rattle.std.proofs.lemmas.Bool.Decides.{eqb_tells}

or_true : (b : Bool) → true ≡ (b || true)
or_true true = refl
or_true false = refl

or_false : (b : Bool) → b ≡ (b || false)
or_false true = refl
or_false false = refl

itself : (b x : Bool) → b ≡ true → (not b || x) ≡ ((not b || x) || not b)
itself true x h = or_false x
itself false x h = absurd cc

other : (b x y : Bool) → b ≡ false → (not b || x) ≡ (y || not b)
other true x y h = absurd cc
other false x y h = or_true y

abbrev any_foreign : Option ℕ → List (Option ℕ) → Bool
any_foreign key ms = list_any (is_foreign key) ms

same_class : (c : ℕ) → nat_eq c c ≡ true
same_class c =
    elim (eqb_tells c c) [
      | inl h ↦ h.0
      | inr h ↦ absurd (h.1 refl)
    ]

by_first : (key : Option ℕ) (c : ℕ) (ms : List (Option ℕ)) → (is_foreign key (Some c) || any_foreign key ms) ≡ ((is_foreign (Some c) (Some c) || any_foreign (Some c) ms) || is_foreign key (Some c))
by_first None c ms = or_true (is_foreign (Some c) (Some c) || any_foreign (Some c) ms)
by_first (Some k) c ms =
    elim (eqb_tells k c) [
      | inl h ↦ subst (λ (j : ℕ). (not (nat_eq j c) || any_foreign (Some j) ms) ≡ ((not (nat_eq c c) || any_foreign (Some c) ms) || not (nat_eq j c))) (sym h.1)
          (itself (nat_eq c c) (any_foreign (Some c) ms) (same_class c))
      | inr h ↦ other (nat_eq k c) (any_foreign (Some k) ms) (not (nat_eq c c) || any_foreign (Some c) ms) h.0
    ]

kept : (c : ℕ) (ms : List (Option ℕ)) → fold option_or (Some c) ms ≡ Some c
kept c [] = refl
kept c (m ∷ ms) = kept c ms

abbrev first_of : List (Option ℕ) → Option ℕ
first_of ms = fold option_or None ms

foreign_first : (key : Option ℕ) (ms : List (Option ℕ)) → any_foreign key ms ≡ (any_foreign (first_of ms) ms || is_foreign key (first_of ms))
foreign_first key [] = refl
foreign_first key (None ∷ ms) = foreign_first key ms
foreign_first key (Some c ∷ ms) =
    by_first key c ms ∙ sym (ap (λ (f : Option ℕ). (is_foreign f (Some c) || any_foreign f ms) || is_foreign key f) (kept c ms))

any_named : (t : Table) (sets : List NameBytes) (key : Option ℕ) → is_foreign_to_any t sets key ≡ any_foreign key (map (member_named t) sets)
any_named t [] key = refl
any_named t (s ∷ ss) key = ap (λ b. is_foreign key (member_named t s) || b) (any_named t ss key)

pub foreign_by_first : (t : Table) (sets : List NameBytes) (key first : Option ℕ) (several : Bool) → first ≡ fold option_or None (map (member_named t) sets) → several ≡ is_foreign_to_any t sets first → (several || is_foreign key first) ≡ is_foreign_to_any t sets key
foreign_by_first t sets key first several f s =
    let ms : List (Option ℕ) = map (member_named t) sets in
    ap (λ b. b || is_foreign key first) (s ∙ any_named t sets first)
    ∙ ap (λ (o : Option ℕ). any_foreign o ms || is_foreign key o) f
    ∙ sym (foreign_first key ms)
    ∙ sym (any_named t sets key)
