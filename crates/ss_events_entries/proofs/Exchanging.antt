-- Two places of a list that are exchanged.
use Rattle.std.proofs.Common.{◌≡◌, ℕ, ◌<◌, List, length, get_or, swap, sym, refl, ap, ◌∙◌, arith, ◌==◌, if◌then◌else◌}
use Rattle.ss_events_entries.proofs.Common.{nat_tests, swapped_from_swap}
use native.Mathlib.Decide.{ℕ_discrete}

-- the index that i is exchanged with, where a and b change places
abbrev pub exchange : ℕ → ℕ → ℕ → ℕ
exchange a b i = if i == a then b else (if i == b then a else i)

pub exchange-within : (a b n i : ℕ) → a < n → b < n → i < n → exchange a b i < n
exchange-within a b n i p q l = grind (arith, nat_tests)

pub exchange-twice : (a b i : ℕ) → exchange a b (exchange a b i) ≡ i
exchange-twice a b i = grind (arith, nat_tests)

pub get_or-swap : {X : Type 0} (xs : List X) (a b : ℕ) (d : X) → a < length xs → b < length xs → (i : ℕ) → get_or (swap xs a b) i d ≡ get_or xs (exchange a b i) d
get_or-swap {X} xs a b d p q i =
    let w = swapped_from_swap xs _ a b d p q refl in
    let read = λ (n : ℕ) (e : exchange a b i ≡ n). ap (λ k. get_or xs k d) e in
    elim (ℕ_discrete i a) [
      | yes e ↦ ap (λ k. get_or (swap xs a b) k d) e ∙ w.0 ∙ sym (read b (grind (arith, nat_tests)))
      | no n ↦ elim (ℕ_discrete i b) [
        | yes e ↦ ap (λ k. get_or (swap xs a b) k d) e ∙ w.1 ∙ sym (read a (grind (arith, nat_tests)))
        | no m ↦ w.2 i n m ∙ sym (read i (grind (arith, nat_tests)))
      ]
    ]
