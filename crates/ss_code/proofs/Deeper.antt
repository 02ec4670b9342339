-- Frames that get room for cells, one after the other.
use Rattle.std.proofs.Common.{◌≡◌, ℕ, zero, suc, ◌+◌, ◌≤◌, List, [], ◌∷◌, length, Some, refl, sym, subst, arith}
use Rattle.std.specs.Prelude.{slice_get, slice_set}
use Rattle.ss_code_instructions.specs.declared.entry.SectionEntry.{SectionEntry}
use Rattle.ss_code.specs.Sections.{IsDeepened, AreAllDeepened}
use Rattle.ss_code_generator.proofs.Modes.{same_some}

-- the first so many have room, and the others are as they were
abbrev pub Halfway : (depth count : ℕ) → (old new : List SectionEntry) → Type 0
Halfway depth zero old new = old ≡ new
Halfway depth (suc k) [] [] = Unit {0}
Halfway depth (suc k) [] (y ∷ ys) = ⊥
Halfway depth (suc k) (x ∷ xs) [] = ⊥
Halfway depth (suc k) (x ∷ xs) (y ∷ ys) = IsDeepened depth x y × Halfway depth k xs ys

no_item : {A : Type 0} (k : ℕ) (x : A) → slice_get [] k ≡ Some x → ⊥
no_item k x e = cc

halfway_more : (depth k : ℕ) (old new : List SectionEntry) (x y : SectionEntry) → Halfway depth k old new → slice_get new k ≡ Some x → IsDeepened depth x y → Halfway depth (suc k) old (slice_set new k y)
halfway_more depth zero old [] x y h e d = absurd (no_item zero x e)
halfway_more depth zero old (n ∷ ns) x y h e d =
    let d' : IsDeepened depth n y = subst (λ (w : SectionEntry). IsDeepened depth w y) (same_some (sym e)) d in
    subst (λ (l : List SectionEntry). Halfway depth (suc zero) l (y ∷ ns)) (sym h) (d', refl)
halfway_more depth (suc k) [] [] x y h e d = absurd (no_item (suc k) x e)
halfway_more depth (suc k) (o ∷ os) (n ∷ ns) x y h e d = (h.0, halfway_more depth k os ns x y h.1 e d)
halfway_more depth (suc k) _ _ x y h e d = absurd h

pub one_deeper : (depth k : ℕ) (old new : List SectionEntry) (x y : SectionEntry) → Halfway depth k old new → slice_get new k ≡ Some x → IsDeepened depth x y → Halfway depth (k + 1) old (slice_set new k y)
one_deeper depth k old new x y h e d =
    let next : suc k ≡ k + 1 = omega arith in
    subst (λ n. Halfway depth n old (slice_set new k y)) next (halfway_more depth k old new x y h e d)

pub all_deeper : (depth k : ℕ) (old new : List SectionEntry) → length old ≤ k → Halfway depth k old new → AreAllDeepened depth old new
all_deeper depth zero [] new few h = subst (λ (l : List SectionEntry). AreAllDeepened depth [] l) h tt
all_deeper depth zero (o ∷ os) new few h = absurd (omega (arith, few))
all_deeper depth (suc k) [] [] few h = tt
all_deeper depth (suc k) (o ∷ os) (n ∷ ns) few h = (h.0, all_deeper depth k os ns (omega (arith, few)) h.1)
all_deeper depth (suc k) _ _ few h = absurd h
