-- Lists that aren't empty.
use Rattle.std.proofs.Common.{◌≡◌, ◌==◌, ℕ, false, List, [], ◌∷◌, length, map, refl, sym, subst}
use Rattle.ss_parse_expressions.proofs.Common.{expression_row, ExpressionTree, product, product_of, Sign, sum, sum_of_terms, term_row}

pub product_of_some : {X : Type 0} (view : X → ExpressionTree) (e : ExpressionTree) (xs : List X) (n : ℕ) → length xs ≡ n → (n == 0) ≡ false → product e (expression_row (map view xs)) ≡ product_of e (map view xs)
product_of_some view e [] n counts some = absurd (let none : (0 == 0) ≡ false = subst (λ k. (k == 0) ≡ false) (sym counts) some in cc)
product_of_some view e (x ∷ xs) n counts some = refl

pub sum_of_some : {X : Type 0} (view : X → Sign × ExpressionTree) (e : ExpressionTree) (xs : List X) (n : ℕ) → length xs ≡ n → (n == 0) ≡ false → sum e (term_row (map view xs)) ≡ sum_of_terms e (map view xs)
sum_of_some view e [] n counts some = absurd (let none : (0 == 0) ≡ false = subst (λ k. (k == 0) ≡ false) (sym counts) some in cc)
sum_of_some view e (x ∷ xs) n counts some = refl
