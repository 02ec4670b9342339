-- Where items that pass a test are in a longer list.
use Rattle.std.proofs.Common.{◌≡◌, ℕ, suc, Bool, true, false, ◌<◌, ◌+◌, ◌∙◌, sym, ap, if◌then◌else◌, List, [], ◌∷◌, ◌++◌, length, map, take, get_or, refl, arith}
use Rattle.std.proofs.lemmas.List.{map-append, take_more, length-take-le}
use Rattle.ss_stats_histories.specs.Places.{places_where}

abbrev pub with_place : Bool → List ℕ → ℕ → List ℕ
with_place b ps n = if b then ps ++ n ∷ [] else ps

one_later : (b c : Bool) (ps qs : List ℕ) (n : ℕ) → qs ≡ with_place b ps n →
    (if c then 0 ∷ map suc qs else map suc qs) ≡ with_place b (if c then 0 ∷ map suc ps else map suc ps) (suc n)
one_later true true ps qs n e = ap (λ (r : List ℕ). 0 ∷ map suc r) e ∙ ap (λ (r : List ℕ). 0 ∷ r) (map-append suc ps (n ∷ []))
one_later true false ps qs n e = ap (λ (r : List ℕ). map suc r) e ∙ map-append suc ps (n ∷ [])
one_later false true ps qs n e = ap (λ (r : List ℕ). 0 ∷ map suc r) e
one_later false false ps qs n e = ap (λ (r : List ℕ). map suc r) e

alone : (b : Bool) → (if b then 0 ∷ [] else []) ≡ with_place b [] 0
alone true = refl
alone false = refl

pub one_place : {X : Type 0} → (test : X → Bool) → (xs : List X) (x : X) → places_where test (xs ++ x ∷ []) ≡ with_place (test x) (places_where test xs) (length xs)
one_place test [] x = alone (test x)
one_place test (y ∷ xs) x = one_later (test x) (test y) (places_where test xs) _ (length xs) (one_place test xs x)

-- one item more of a list
pub placed_more : {X : Type 0} → (test : X → Bool) (xs : List X) (i : ℕ) (d : X) → i < length xs →
    places_where test (take (i + 1) xs) ≡ with_place (test (get_or xs i d)) (places_where test (take i xs)) i
placed_more test xs i d h =
    ap (places_where test) (take_more xs i d h) ∙ one_place test (take i xs) (get_or xs i d) ∙ ap (λ n. with_place (test (get_or xs i d)) (places_where test (take i xs)) n) (length-take-le i xs (omega arith))

pub next_place : {X : Type 0} → (test : X → Bool) (xs : List X) (i : ℕ) (d : X) (before now : List ℕ) → i < length xs → before ≡ places_where test (take i xs) →
    now ≡ with_place (test (get_or xs i d)) before i → now ≡ places_where test (take (i + 1) xs)
next_place test xs i d before now h e n = n ∙ ap (λ (r : List ℕ). with_place (test (get_or xs i d)) r i) e ∙ sym (placed_more test xs i d h)
