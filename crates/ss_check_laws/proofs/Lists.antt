-- Steps one after the other, and lists of which each item is such as its place wants.
use Rattle.std.proofs.Common.{◌≡◌, ℕ, zero, suc, ◌+◌, ◌≤◌, Bool, List, [], ◌∷◌, length, take, drop, Option, Some, refl, ap, subst, arith, ◌∙◌}
use Rattle.ss_check_laws.proofs.Common.{AllZip, AreValid, Scope, slice_get, Use}
use Rattle.ss_names_meaning.specs.Answers.{each}
use Rattle.ss_names_uses.specs.Uses.{in_places}
use Rattle.ss_check_laws.proofs.Steps.{after_two, GoesWell, two_parts}

-- ---- places

pub after_first : {A : Type 0} (n i : ℕ) (xs : List A) → slice_get (drop n xs) i ≡ slice_get xs (n + i)
after_first zero i xs =
    let same : i ≡ 0 + i = omega arith in
    ap (λ (k : ℕ). slice_get xs k) same
after_first (suc n) i [] = refl
after_first (suc n) i (x ∷ xs) =
    let same : suc (n + i) ≡ suc n + i = omega arith in
    after_first n i xs ∙ ap (λ (k : ℕ). slice_get (x ∷ xs) k) same

-- as many things as items, each such as the place of its item wants
abbrev pub Placed : {A B C : Type 0} → (B → C → Type 0) → List A → List C → List B → Type 0
Placed Q xs cs ys = (length ys ≡ length xs) × AllZip Q ys (take (length xs) cs)

module _ (s : Scope) (in_main : Bool) where
  from_place : {A B C : Type 0} (act : A → Option B) (of : ℕ → A → List Use) (Q : B → C → Type 0) (i : ℕ) (xs : List A) (cs : List C) →
      ((j : ℕ) (x : A) (c : C) → slice_get cs j ≡ Some c → AreValid s in_main (of (i + j) x) → GoesWell (λ y. Q y c) (act x)) → length xs ≤ length cs →
      AreValid s in_main (in_places of i xs) → GoesWell (Placed Q xs cs) (each act xs)
  unfolding each
  from_place act of Q i [] cs good few k = ([], refl, (refl, tt))
  from_place act of Q i (x ∷ xs) [] good few k = absurd (omega (arith, few))
  from_place act of Q i (x ∷ xs) (c ∷ cs) good few k =
      let p = two_parts s in_main (of i x) (in_places of (i + 1) xs) k in
      let here : i ≡ i + 0 = omega arith in
      let fewer : length xs ≤ length cs = omega (arith, few) in
      let first = good 0 x c refl (subst (λ (n : ℕ). AreValid s in_main (of n x)) here p.0) in
      let rest = from_place act of Q (i + 1) xs cs (λ j y d e h. let there : (i + 1) + j ≡ i + suc j = omega arith in good (suc j) y d e (subst (λ (n : ℕ). AreValid s in_main (of n y)) there h)) fewer p.1 in
      after_two (Placed Q (x ∷ xs) (c ∷ cs)) _ _ _ first rest (λ y ys h hs. (ap suc hs.0, (h, hs.1)))

  -- a step for each item, which may use what its place says
  pub in_order : {A B C : Type 0} (act : A → Option B) (of : ℕ → A → List Use) (Q : B → C → Type 0) (xs : List A) (cs : List C) →
      ((i : ℕ) (x : A) (c : C) → slice_get cs i ≡ Some c → AreValid s in_main (of i x) → GoesWell (λ y. Q y c) (act x)) → length xs ≤ length cs →
      AreValid s in_main (in_places of 0 xs) → GoesWell (Placed Q xs cs) (each act xs)
  in_order act of Q xs cs good few k =
      from_place act of Q 0 xs cs (λ j x c e h. let same : 0 + j ≡ j = omega arith in good j x c e (subst (λ (n : ℕ). AreValid s in_main (of n x)) same h)) few k
