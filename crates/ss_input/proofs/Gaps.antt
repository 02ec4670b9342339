-- The words of bytes that were passed.
use Rattle.std.proofs.Common.{◌≡◌, ℕ, ◌<◌, ◌≤◌, Bool, true, false, List, [], ◌∷◌, ◌++◌, length, drop, Ok, Err, refl, sym, ap, subst, ◌∙◌, arith}
use Rattle.std.specs.Prelude.{take_while}
use Rattle.ss_input.proofs.Common.{BadData, list_all}
use Rattle.std.proofs.Math.Seq.{drop-append_seam}
use Rattle.std.proofs.lemmas.Bool.{and_parts, lt-ltb, le-ltb}
use Rattle.std.proofs.lemmas.List.Sums.{take_while-cons}
use Rattle.ss_input.specs.Words.{is_separator, is_word_byte, gap, from_word, first_word, leading_word, separator_limit, word_limit}

-- bytes that begin with none of a kind
abbrev pub Stops : (ℕ → Bool) → List ℕ → Type 0
Stops p t = (x : ℕ) (xs : List ℕ) → t ≡ x ∷ xs → p x ≡ false

stop-first : (p : ℕ → Bool) (t : List ℕ) → Stops p t → take_while p t ≡ []
stop-first p [] h = refl
stop-first p (x ∷ t) h = take_while-cons p x t ∙ rw (h x t refl) refl

pub take_while-all : (p : ℕ → Bool) (s t : List ℕ) → list_all p s ≡ true → Stops p t → take_while p (s ++ t) ≡ s
take_while-all p [] t h stops = stop-first p t stops
take_while-all p (x ∷ s) t h stops =
    let parts = and_parts (p x) (list_all p s) h in
    take_while-cons p x (s ++ t) ∙ rw parts.0 (ap (λ r. x ∷ r) (take_while-all p s t parts.1 stops))

at-least : (p : ℕ → Bool) (s t : List ℕ) → list_all p s ≡ true → length s ≤ length (take_while p (s ++ t))
at-least p [] t h = omega arith
at-least p (x ∷ s) t h =
    let parts = and_parts (p x) (list_all p s) h in
    let more = at-least p s t parts.1 in
    let e : take_while p (x ∷ (s ++ t)) ≡ x ∷ take_while p (s ++ t) = take_while-cons p x (s ++ t) ∙ rw parts.0 refl in
    subst (λ l. length (x ∷ s) ≤ length l) (sym e) (omega (arith, more))

-- ---- the next word

pub word_next : (s t : List ℕ) → list_all is_separator s ≡ true → Stops is_separator t → length s ≤ separator_limit → from_word (s ++ t) ≡ Ok t
word_next s t h stops small =
    let e : gap (s ++ t) ≡ s = take_while-all is_separator s t h stops in
    rw (e, le-ltb separator_limit (length s) small, drop-append_seam s t) refl

pub too_many : (s t : List ℕ) → list_all is_separator s ≡ true → separator_limit < length s → from_word (s ++ t) ≡ Err BadData
too_many s t h large =
    let more = at-least is_separator s t h in
    let l : separator_limit < length (gap (s ++ t)) = omega (arith, large, more) in
    rw (lt-ltb separator_limit (length (gap (s ++ t))) l) refl

pub word_is : (w t : List ℕ) → (w ++ t ≡ [] → ⊥) → list_all is_word_byte w ≡ true → Stops is_word_byte t → length w ≤ word_limit → leading_word (Ok (w ++ t)) ≡ Ok (record { value = w; rest = t })
word_is w t some h stops small = given (w ++ t) refl
  where
    given : (l : List ℕ) → l ≡ w ++ t → leading_word (Ok l) ≡ Ok (record { value = w; rest = t })
    given [] e = absurd (some (sym e))
    given (x ∷ l) e =
        let f : first_word (x ∷ l) ≡ w = ap first_word e ∙ take_while-all is_word_byte w t h stops in
        rw (f, le-ltb word_limit (length w) small) (ap (λ r. Ok (record { value = w; rest = r })) (ap (drop (length w)) e ∙ drop-append_seam w t))

pub too_long : (w t : List ℕ) → list_all is_word_byte w ≡ true → word_limit < length w → leading_word (Ok (w ++ t)) ≡ Err BadData
too_long [] t h large = absurd (omega (arith, large))
too_long (x ∷ w) t h large =
    let more = at-least is_word_byte (x ∷ w) t h in
    let l : word_limit < length (first_word ((x ∷ w) ++ t)) = omega (arith, large, more) in
    rw (lt-ltb word_limit (length (first_word ((x ∷ w) ++ t))) l) refl
