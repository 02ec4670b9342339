-- Writes in a row that took no byte.
use Rattle.std.proofs.Common.{◌≡◌, ℕ, zero, suc, ◌+◌, ◌<◌, Option, Some, None, option_map, refl, ap, ◌∙◌, arith}
use Rattle.ss_picture.specs.Sending.{idle_before}

-- those before a call, where nothing was sent
pub idle-unsent : (known : Option ℕ) → known ≡ option_map (idle_before 0) known
idle-unsent None = refl
idle-unsent (Some idle) = refl

-- those before a call don't count once a byte was sent
pub idle-sent : (before known after : Option ℕ) (at count : ℕ) → 0 < count → known ≡ option_map (idle_before at) before → after ≡ option_map (λ _. 0) known → after ≡ option_map (idle_before (at + count)) before
idle-sent None known after at count some e f = f ∙ ap (option_map (λ _. 0)) e
idle-sent (Some idle) known after at count some e f = f ∙ ap (option_map (λ _. 0)) e ∙ ap Some (by-sum (at + count) (omega (arith, some)))
  where
    by-sum : (n : ℕ) → 0 < n → 0 ≡ idle_before n idle
    by-sum zero p = absurd (omega (arith, p))
    by-sum (suc n) p = refl
