-- Lists that come of the items of a list and their numbers.
use Rattle.std.proofs.Common.{◌≡◌, ℕ, ◌+◌, List, [], ◌∷◌, ◌++◌, length, sym, ap, ◌∙◌, append_assoc, arith}
use Rattle.ss_names_declarations.proofs.Common.{flat_map_from}
use Rattle.std.proofs.lemmas.List.{append-nil}

pub one_more : {A B : Type 0} (f : ℕ → A → List B) (n : ℕ) (xs : List A) (x : A) → flat_map_from f n (xs ++ x ∷ []) ≡ flat_map_from f n xs ++ f (n + length xs) x
one_more f n [] x =
    let k : n ≡ n + 0 = omega arith in append-nil (f n x) ∙ ap (λ m. f m x) k
one_more f n (y ∷ xs) x =
    let k : n + 1 + length xs ≡ n + length (y ∷ xs) = omega arith in
    ap (λ l. f n y ++ l) (one_more f (n + 1) xs x)
    ∙ sym (append_assoc (f n y) (flat_map_from f (n + 1) xs) (f (n + 1 + length xs) x))
    ∙ ap (λ m. (f n y ++ flat_map_from f (n + 1) xs) ++ f m x) k
