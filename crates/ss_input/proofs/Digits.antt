-- Digits that are read one after another.
use Rattle.std.proofs.Common.{◌≡◌, ◌≤◌, ◌&&◌, Bool, false, nat_le, ℕ, ◌+◌, ◌-◌, ◌*◌, ◌<◌, length, take, min, true, List, [], ◌∷◌, ◌++◌, refl, sym, ap, ◌∙◌, slice_index_or, arith}
use Rattle.ss_input.proofs.Common.{cap, digits_from, is_digit, leb-true, list_all, list_all-append}
use Rattle.std.proofs.lemmas.List.{take_more}

pub one_more : (xs : List ℕ) (i : ℕ) → i < length xs → list_all is_digit (take i xs) ≡ true → is_digit (slice_index_or xs i 0) ≡ true → list_all is_digit (take (i + 1) xs) ≡ true
one_more xs i lt h d =
    ap (list_all is_digit) (take_more xs i 0 lt) ∙ list_all-append is_digit (take i xs) (slice_index_or xs i 0 ∷ []) ∙ rw (h, d) refl

digits_more : (xs : List ℕ) (n b : ℕ) → digits_from n (xs ++ b ∷ []) ≡ digits_from n xs * 10 + (b - 48)
digits_more [] n b = refl
digits_more (x ∷ xs) n b = digits_more xs (n * 10 + (x - 48)) b

capped_step : (n d v : ℕ) → v ≡ min n cap → min (v * 10 + d) cap ≡ min (n * 10 + d) cap
capped_step n d v e = omega (arith, e)

pub capped_more : (xs : List ℕ) (i v : ℕ) → i < length xs → v ≡ min (digits_from 0 (take i xs)) cap → min (v * 10 + (slice_index_or xs i 0 - 48)) cap ≡ min (digits_from 0 (take (i + 1) xs)) cap
capped_more xs i v lt e =
    capped_step (digits_from 0 (take i xs)) (slice_index_or xs i 0 - 48) v e ∙
    ap (λ n. min n cap) (sym (ap (digits_from 0) (take_more xs i 0 lt) ∙ digits_more (take i xs) 0 (slice_index_or xs i 0)))

pub value_more : (xs : List ℕ) (i v : ℕ) → i < length xs → v ≡ digits_from 0 (take i xs) → v * 10 + (slice_index_or xs i 0 - 48) ≡ digits_from 0 (take (i + 1) xs)
value_more xs i v lt e =
    ap (λ n. n * 10 + (slice_index_or xs i 0 - 48)) e ∙ sym (ap (digits_from 0) (take_more xs i 0 lt) ∙ digits_more (take i xs) 0 (slice_index_or xs i 0))

and-right : (a b : Bool) → (a && b) ≡ true → b ≡ true
and-right true b e = e
and-right false b e = absurd cc

pub digit_small : (b : ℕ) → is_digit b ≡ true → b - 48 ≤ 9
digit_small b e = let low = leb-true b 57 (and-right (nat_le 48 b) (nat_le b 57) e) in omega (arith, low)
