-- The next item of a loop, by numbers without a sign.
use Rattle.std.proofs.Common.{◌≡◌, ℕ, suc, ◌+◌, ◌-◌, ◌%◌, ◌^◌, ◌<◌, ◌≤◌, Bool, true, false, Some, None, refl, sym, ap, ◌∙◌, arith, SFits, to_z, of_z, w64, if◌then◌else◌}
use Rattle.std.proofs.lemmas.Bool.{false_from_ne_true, true_from_ne_false}
use Rattle.std.proofs.lemmas.Int.{ints, of_z-to_z, to_z_pos}
use Rattle.std.specs.Prelude.{ℤ, pos, negsuc, ◌+ℤ◌, ◌<ℤ◌, ◌≤ℤ◌, ◌&&◌, int_lt, int_le}
use Rattle.std.specs.Int.{int_min}
use mir.ValLaws as laws
use Rattle.ss_meaning.specs.Loops.{greatest}
use Rattle.ss_machine_instructions.proofs.Common.{has_item, item_after, unsigned}

-- how far a number is below another, and their sum, as the machine reckons them
abbrev pub far : (high low : ℤ) → ℕ
far a b = of_z w64 (to_z w64 ((of_z w64 a + (2 ^ 64 - of_z w64 b)) % 2 ^ 64))

abbrev pub sum : ℤ → ℤ → ℤ
sum a s = to_z w64 ((of_z w64 a + of_z w64 s) % 2 ^ 64)

far_is : (a b : ℤ) → SFits w64 a → SFits w64 b → b <ℤ a → b +ℤ pos (far a b) ≡ a
far_is (pos a) (pos b) f g lt =
    let h : a < 2 ^ 63 = f.sfits in
    let k : b < 2 ^ 63 = g.sfits in
    ap (λ n. pos b +ℤ pos n) (of_z-to_z w64 ((a + (2 ^ 64 - b)) % 2 ^ 64) (omega arith)) ∙ omega (arith, ints)
far_is (pos a) (negsuc b) f g lt =
    let h : a < 2 ^ 63 = f.sfits in
    let k : b < 2 ^ 63 = g.sfits in
    ap (λ n. negsuc b +ℤ pos n) (of_z-to_z w64 ((a + (2 ^ 64 - (2 ^ 64 - suc b))) % 2 ^ 64) (omega arith)) ∙ omega (arith, ints)
far_is (negsuc a) (pos b) f g lt = absurd (omega (arith, ints))
far_is (negsuc a) (negsuc b) f g lt =
    let h : a < 2 ^ 63 = f.sfits in
    let k : b < 2 ^ 63 = g.sfits in
    ap (λ n. negsuc b +ℤ pos n) (of_z-to_z w64 ((2 ^ 64 - suc a + (2 ^ 64 - (2 ^ 64 - suc b))) % 2 ^ 64) (omega arith)) ∙ omega (arith, ints)

-- a step without a sign
step_is : (s : ℤ) → SFits w64 s → unsigned s ≡ pos (of_z w64 s)
step_is (pos n) f = ap (λ b. if b then pos n +ℤ pos (2 ^ 64) else pos n) (false_from_ne_true (int_lt (pos n) (pos 0)) (λ q. omega (arith, ints)))
step_is (negsuc k) f =
    let small : k < 2 ^ 63 = f.sfits in
    let e : negsuc k +ℤ pos (2 ^ 64) ≡ pos (2 ^ 64 - suc k) = omega (arith, ints, small) in
    ap (λ b. if b then negsuc k +ℤ pos (2 ^ 64) else negsuc k) (true_from_ne_false (int_lt (negsuc k) (pos 0)) (λ q. omega (arith, ints))) ∙ e

-- the sum is that of an item and a step without a sign, where that is a number
sum_is : (a s : ℤ) → SFits w64 a → SFits w64 s → (a +ℤ pos (of_z w64 s)) ≤ℤ greatest → sum a s ≡ a +ℤ pos (of_z w64 s)
sum_is (pos a) (pos n) f g le =
    let h : a + n < 2 ^ 63 = omega (arith, ints) in
    let same : (a + n) % 2 ^ 64 ≡ a + n = omega arith in
    ap (to_z w64) same ∙ to_z_pos w64 (a + n) h
sum_is (pos a) (negsuc k) f g le = let h : k < 2 ^ 63 = g.sfits in absurd (omega (arith, ints))
sum_is (negsuc a) (pos n) f g le = by (int_lt (negsuc a +ℤ pos n) (pos 0)) refl
  where
    h : a < 2 ^ 63
    h = f.sfits

    k : n < 2 ^ 63
    k = g.sfits

    by : (b : Bool) → int_lt (negsuc a +ℤ pos n) (pos 0) ≡ b → to_z w64 ((2 ^ 64 - suc a + n) % 2 ^ 64) ≡ negsuc a +ℤ pos n
    by true q =
        let less : n ≤ a = omega (arith, ints) in
        let same : (2 ^ 64 - suc a + n) % 2 ^ 64 ≡ 2 ^ 64 - suc (a - n) = omega (arith, h, k) in
        ap (to_z w64) same ∙ laws.to_z-neg w64 (a - n) (omega (arith, h, less)) ∙ omega (arith, ints, less)
    by false q =
        let more : a < n = omega (arith, ints) in
        let same : (2 ^ 64 - suc a + n) % 2 ^ 64 ≡ n - suc a = omega (arith, h, k, more) in
        ap (to_z w64) same ∙ to_z_pos w64 (n - suc a) (omega (arith, k)) ∙ omega (arith, ints, more)
sum_is (negsuc a) (negsuc k) f g le =
    let h : a < 2 ^ 63 = f.sfits in
    let j : k < 2 ^ 63 = g.sfits in
    let d : ℕ = 2 ^ 64 - suc a - suc k in
    let small : 2 ^ 64 - suc a - suc k < 2 ^ 63 = omega (arith, ints) in
    let same : (2 ^ 64 - suc a + (2 ^ 64 - suc k)) % 2 ^ 64 ≡ 2 ^ 64 - suc a - suc k = omega arith in
    ap (to_z w64) same ∙ to_z_pos w64 (2 ^ 64 - suc a - suc k) small ∙ omega (arith, ints)

-- no number is above the greatest
most : (z : ℤ) → SFits w64 z → z ≤ℤ greatest
most (pos n) f = let h : n < 2 ^ 63 = f.sfits in omega (arith, ints)
most (negsuc k) f = omega (arith, ints)

least_is : (z : ℤ) → z ≤ℤ greatest → int_min z greatest ≡ z
least_is z le = ap (λ b. if b then greatest else z) (false_from_ne_true (int_lt greatest z) (λ q. omega (arith, ints, le)))

below_is : (a b : ℤ) → a <ℤ b → int_lt a b ≡ true
below_is a b lt = true_from_ne_false (int_lt a b) (λ q. omega (arith, ints, lt))

up_to : (a b : ℤ) → a ≤ℤ b → int_le a b ≡ true
up_to a b le = true_from_ne_false (int_le a b) (λ q. omega (arith, ints, le))

-- an item below the limit has a next one where the step goes no further than the limit
pub within : (item step limit : ℤ) → SFits w64 item → SFits w64 step → SFits w64 limit → item <ℤ limit → of_z w64 step ≤ far limit item → Some (sum item step) ≡ item_after item step limit
within item step limit f g h below le =
    let u = of_z w64 step in
    let left = far_is limit item h f below in
    let fits : (item +ℤ pos (of_z w64 step)) ≤ℤ limit = omega (arith, ints, left, le) in
    let top : (item +ℤ pos (of_z w64 step)) ≤ℤ greatest = omega (arith, ints, fits, most limit h) in
    let step_up = step_is step g in
    let has : has_item (item +ℤ unsigned step) limit ≡ true =
    ap (λ z. has_item (item +ℤ z) limit) step_up
    ∙ ap (λ m. int_le (item +ℤ pos u) m) (least_is limit (most limit h))
    ∙ up_to (item +ℤ pos u) limit fits in
    ap Some (sum_is item step f g top ∙ ap (λ z. item +ℤ z) (sym step_up))
    ∙ sym (ap (λ t. if (t && has_item (item +ℤ unsigned step) limit) then Some (item +ℤ unsigned step) else None) (below_is item limit below)
    ∙ ap (λ t. if t then Some (item +ℤ unsigned step) else None) has)
