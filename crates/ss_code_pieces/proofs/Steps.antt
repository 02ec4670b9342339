-- One more item of a list that is made one after the other.
use Rattle.std.proofs.Common.{◌≡◌, ℕ, ◌+◌, ◌<◌, List, [], ◌∷◌, ◌++◌, length, get_or, map, take, ap, sym, ◌∙◌, append_assoc, arith}
use Rattle.std.proofs.lemmas.List.{take_more, map-append, length-map, length-take-le}

-- what an item adds goes from what is left to what is made
pub moved : {A : Type 0} (old new add rest left want : List A) → old ++ left ≡ want → left ≡ add ++ rest → new ≡ old ++ add → new ++ rest ≡ want
moved old new add rest left want h l e = ap (λ x. x ++ rest) e ∙ append_assoc old add rest ∙ ap (λ x. old ++ x) (sym l) ∙ h

-- the items so far, with the next one
pub next_taken : {A B : Type 0} (f : A → B) (xs : List A) (i : ℕ) (x : A) → i < length xs → x ≡ get_or xs i x → map f (take (i + 1) xs) ≡ map f (take i xs) ++ f x ∷ []
next_taken f xs i x lt e = ap (map f) (take_more xs i x lt) ∙ map-append f (take i xs) (get_or xs i x ∷ []) ∙ ap (λ y. map f (take i xs) ++ f y ∷ []) (sym e)

pub taken_long : {A B : Type 0} (f : A → B) (xs : List A) (i : ℕ) → i < length xs → length (map f (take i xs)) ≡ i
taken_long f xs i lt = length-map (take i xs) f ∙ length-take-le i xs (omega (arith, lt))
