-- Digits that are written from the last to the first, and what a field holds when they are.
use Rattle.std.proofs.Common.{◌≡◌, ℕ, zero, suc, ◌+◌, ◌-◌, ◌/◌, ◌%◌, ◌^◌, ◌<◌, List, [], ◌∷◌, ◌++◌, length, set, take, drop, ℤ, refl, sym, ap, ◌∙◌, arith, length-append}
use Rattle.std.proofs.lemmas.List.{append-nil, drop_all, take_all}
use borrow.Rule.Slice.PartMut.{put_mid}
use Rattle.std.specs.Prelude.{unsigned_abs}
use Rattle.ss_picture.specs.Numerals.{last_digits, fraction_text, numeral, sign_of, mean_units, mean_text}
use Rattle.ss_picture.specs.Pictures.{at_right}

pub length-last_digits : (count n : ℕ) → length (last_digits count n) ≡ count
length-last_digits zero n = refl
length-last_digits (suc more) n =
    omega (arith, length-append (last_digits more (n / 10)) ((48 + n % 10) ∷ []), length-last_digits more (n / 10))

-- a period and some decimals
pub fraction_is : (decimals n : ℕ) → 0 < decimals → fraction_text decimals n ≡ 46 ∷ last_digits decimals n
fraction_is zero n some = absurd (omega arith)
fraction_is (suc more) n some = refl

pub length-fraction_text : (decimals n : ℕ) → 0 < decimals → length (fraction_text decimals n) ≡ decimals + 1
length-fraction_text zero n some = absurd (omega arith)
length-fraction_text (suc more) n some = omega (arith, length-last_digits (suc more) n)

-- a period, and decimals after it
pub fraction_written : (place new : List ℕ) (decimals n : ℕ) → 0 < decimals → length place ≡ length (fraction_text decimals n)
    → new ≡ last_digits (length (take (length (set place 0 46) - 1) (drop 1 (set place 0 46)))) n
    → put_mid 1 (length (set place 0 46) - 1) (set place 0 46) new ≡ fraction_text decimals n
fraction_written [] new decimals n some long is = absurd (omega (arith, length-fraction_text decimals n some))
fraction_written (first ∷ rest) new decimals n some long is =
    let less : suc (length rest) - 1 ≡ length rest = omega arith in
    let all : take (suc (length rest) - 1) rest ≡ rest = take_all (suc (length rest) - 1) rest (omega arith) in
    let none : drop (suc (length rest) - 1) rest ≡ [] = drop_all (suc (length rest) - 1) rest (omega arith) in
    let count : length rest ≡ decimals = omega (arith, length-fraction_text decimals n some) in
    let digits : new ≡ last_digits decimals n = is ∙ ap (λ (l : List ℕ). last_digits (length l) n) all ∙ ap (λ (k : ℕ). last_digits k n) count in
    ap (λ (l : List ℕ). 46 ∷ (new ++ l)) none ∙ ap (λ (l : List ℕ). 46 ∷ l) (append-nil new ∙ digits) ∙ sym (fraction_is decimals n some)

-- a mean of these parts
pub mean_written : (own : List ℕ) (decimals : ℕ) (sum number : ℤ) (sign whole : List ℕ) (units scale : ℕ)
    → units ≡ unsigned_abs (mean_units decimals sum number) → scale ≡ 10 ^ decimals → sign ≡ sign_of (mean_units decimals sum number) → whole ≡ numeral (units / scale)
    → at_right own (sign ++ (whole ++ fraction_text decimals (units % scale))) ≡ at_right own (mean_text decimals sum number)
mean_written own decimals sum number sign whole units scale units_is scale_is sign_is whole_is =
    ap (at_right own) (rw (sign_is, whole_is, scale_is, units_is) refl)
