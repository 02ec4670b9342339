use Rattle.std.proofs.Common.{◌≡◌, ◌<◌, ◌≤◌, ℕ, zero, suc, List, [], ◌∷◌, length, drop, refl, sym, ◌∙◌, arith}
use Rattle.ss_events_entries.proofs.Common.{Less, slice_cmp, Tie, tie_order}
use Rattle.ss_events_entries.proofs.entry.order.ties_order.Goals as goal

-- no ties come before some
none_first : (n : ℕ) (ys : List Tie) → n < length ys → slice_cmp tie_order [] (drop n ys) ≡ Less
none_first n [] lt = absurd (omega arith)
none_first zero (y ∷ ys) lt = refl
none_first (suc n) (y ∷ ys) lt = none_first n ys (omega arith)

-- the list that ends first comes first
ends_first : (n : ℕ) (xs ys : List Tie) → length xs ≤ n → n < length ys → slice_cmp tie_order (drop n xs) (drop n ys) ≡ Less
ends_first n xs [] le lt = absurd (omega arith)
ends_first zero [] (y ∷ ys) le lt = refl
ends_first zero (x ∷ xs) (y ∷ ys) le lt = absurd (omega arith)
ends_first (suc n) [] (y ∷ ys) le lt = none_first n ys (omega arith)
ends_first (suc n) (x ∷ xs) (y ∷ ys) le lt = ends_first n xs ys (omega arith) (omega arith)

pub returns-then-a-b : goal.returns-then-a-b
returns-then-a-b c = sym (ends_first c.loop-i.i c.args.a.now c.args.b.now (omega arith) (omega arith)) ∙ c.loop-i.invariant
