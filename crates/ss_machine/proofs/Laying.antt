-- Values that are laid in the rows one after the other.
use Rattle.std.proofs.Common.{◌≡◌, ℕ, zero, suc, ◌+◌, ◌<◌, List, [], ◌∷◌, ◌++◌, length, get_or, drop, refl, sym, ap, ◌∙◌, subst, arith, length-append}
use Rattle.std.specs.Prelude.{slice_get, Some, pos}
use Rattle.ss_machine.proofs.Common.{AreValuesAt, drop_more, first_values, Mode, Text, Value, values_laid, Whole}
use Rattle.ss_machine_frames.specs.Rows.{TwoRows, IsValueAt, AreAlike, with_last}
use Rattle.ss_machine_frames.proofs.Places.{agree_on, agree_same, agree_within, value_agrees}

-- ## In a loop

pub laid_more : (vs : List Value) (i : ℕ) (v : Value) → i < length vs → v ≡ get_or vs i v → (r s : TwoRows) → s ≡ with_last r v → {all : TwoRows} → values_laid r (drop i vs) ≡ all → values_laid s (drop (i + 1) vs) ≡ all
laid_more vs i v lt is r s e h =
    let next : drop i vs ≡ v ∷ drop (i + 1) vs = drop_more vs i v lt ∙ ap (λ x. x ∷ drop (i + 1) vs) (sym is) in
    ap (λ t. values_laid t (drop (i + 1) vs)) e ∙ sym (ap (values_laid r) next) ∙ h

-- ## Where they lie

last_long : (r : TwoRows) (v : Value) → length (with_last r v).numbers ≡ length r.numbers + 1
last_long r (Whole z) = length-append r.numbers (z ∷ [])
last_long r (Text t) = length-append r.numbers _

pub laid_long : (r : TwoRows) (vs : List Value) → length (values_laid r vs).numbers ≡ length r.numbers + length vs
laid_long r [] = omega arith
laid_long r (v ∷ vs) = omega (arith, laid_long (with_last r v) vs, last_long r v)

last_even : (r : TwoRows) (v : Value) → length r.texts ≡ length r.numbers → length (with_last r v).texts ≡ length (with_last r v).numbers
last_even r (Whole z) e = omega (arith, length-append r.texts ([] ∷ []), length-append r.numbers (z ∷ []), e)
last_even r (Text t) e = omega (arith, length-append r.texts (t ∷ []), length-append r.numbers (pos 0 ∷ []), e)

pub laid_even : (r : TwoRows) (vs : List Value) → length r.texts ≡ length r.numbers → length (values_laid r vs).texts ≡ length (values_laid r vs).numbers
laid_even r [] e = e
laid_even r (v ∷ vs) e = laid_even (with_last r v) vs (last_even r v e)

front_get : {A : Type 0} (xs ys : List A) (j : ℕ) → j < length xs → slice_get (xs ++ ys) j ≡ slice_get xs j
front_get [] ys j lt = absurd (omega (arith, lt))
front_get (x ∷ xs) ys zero lt = refl
front_get (x ∷ xs) ys (suc j) lt = front_get xs ys j (omega (arith, lt))

seam : {A : Type 0} (xs : List A) (x : A) → slice_get (xs ++ x ∷ []) (length xs) ≡ Some x
seam [] x = refl
seam (y ∷ xs) x = seam xs x

last_agrees : (r : TwoRows) (v : Value) → length r.texts ≡ length r.numbers → AreAlike r (with_last r v) 0 (length r.numbers)
last_agrees r (Whole z) e = record { numbers = λ j a b. front_get r.numbers _ j b; texts = λ j a b. front_get r.texts _ j (omega (arith, b, e)) }
last_agrees r (Text t) e = record { numbers = λ j a b. front_get r.numbers _ j b; texts = λ j a b. front_get r.texts _ j (omega (arith, b, e)) }

last_at : (r : TwoRows) (v : Value) → length r.texts ≡ length r.numbers → IsValueAt (with_last r v) (length r.numbers) v
last_at r (Whole z) e = seam r.numbers z
last_at r (Text t) e = subst (λ n. slice_get (r.texts ++ t ∷ []) n ≡ Some t) e (seam r.texts t)

-- what lay there lies there still
pub laid_agrees : (r : TwoRows) (vs : List Value) → length r.texts ≡ length r.numbers → AreAlike r (values_laid r vs) 0 (length r.numbers)
laid_agrees r [] e = agree_same r 0 (length r.numbers)
laid_agrees r (v ∷ vs) e =
    let s = with_last r v in
    agree_on r s (values_laid s vs) 0 (length r.numbers) (last_agrees r v e)
    (agree_within s (values_laid s vs) 0 (length s.numbers) 0 (length r.numbers) (omega arith) (omega (arith, last_long r v)) (laid_agrees s vs (last_even r v e)))

-- and then the values lie
pub laid_at : (r : TwoRows) (vs : List Value) → length r.texts ≡ length r.numbers → AreValuesAt (values_laid r vs) (length r.numbers) vs
laid_at r [] e = tt
laid_at r (v ∷ vs) e =
    let s = with_last r v in (
      value_agrees s (values_laid s vs) (length r.numbers) 0 (length s.numbers) v (omega arith) (omega (arith, last_long r v)) (laid_agrees s vs (last_even r v e)) (last_at r v e),
      subst (λ n. AreValuesAt (values_laid s vs) n vs) (last_long r v) (laid_at s vs (last_even r v e)),
    )

pub firsts_long : (ms : List Mode) → length (first_values ms) ≡ length ms
firsts_long [] = refl
firsts_long (m ∷ ms) = ap suc (firsts_long ms)
