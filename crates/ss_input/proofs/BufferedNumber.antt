-- A number whose bytes are buffered.
use Rattle.std.proofs.Common.{◌≡◌, ℕ, zero, suc, ◌+◌, ◌<◌, ◌≤◌, ◌&&◌, ◌==◌, Bool, true, false, not, nat_le, List, [], ◌∷◌, ◌++◌, length, take, drop, Option, Some, None, Ok, pos, refl, sym, ap, subst, ◌∙◌, arith}
use Rattle.ss_input.proofs.Common.{Consumes, first_input_byte, HasPassed, Integer, IsNextWanted, leb-true, list_all, lt-ltb, Source, Whole}
use Rattle.std.proofs.lemmas.Bool.Decides.{nat_tests}
use Rattle.std.proofs.lemmas.List.{append-nil, take-append-drop, drop-drop, length-take-le, length-drop}
use Rattle.ss_base.specs.Arithmetic.{fits_64_bits}
use Rattle.ss_input.specs.Inputs.{source_block, source_gap, IsBuffered, IsBeforeWord, HasReached, HasReadInput}
use Rattle.ss_input.specs.Words.{is_digit, is_separator, is_word_byte, digits_from, digits_of, number_read, within_64_bits, next_word, value_given, read_word, if_read, as_whole, no_word, is_ended}
use Rattle.ss_input.proofs.Reached.{word_found, end_found, reads_so, reads_moved}

and-left : (a b : Bool) → (a && b) ≡ true → a ≡ true
and-left true b e = refl
and-left false b e = absurd cc

and-right : (a b : Bool) → (a && b) ≡ true → b ≡ true
and-right true b e = e
and-right false b e = absurd cc

-- a digit is no separator and no sign
from_48 : (b : ℕ) → is_digit b ≡ true → 48 ≤ b
from_48 b e = leb-true 48 b (and-left (nat_le 48 b) (nat_le b 57) e)

not_below : (b n : ℕ) → 48 ≤ b → n < 48 → (b == n) ≡ false
not_below b n low less = grind (arith, nat_tests)

no_separator : (b : ℕ) → is_digit b ≡ true → is_separator b ≡ false
no_separator b e =
    let low = from_48 b e in
    rw (not_below b 32 low (omega arith), not_below b 9 low (omega arith), not_below b 13 low (omega arith), not_below b 10 low (omega arith)) refl

word_byte : (b : ℕ) → is_digit b ≡ true → is_word_byte b ≡ true
word_byte b e = ap not (no_separator b e)

word_bytes : (w : List ℕ) → list_all is_digit w ≡ true → list_all is_word_byte w ≡ true
word_bytes [] h = refl
word_bytes (b ∷ w) h = rw (word_byte b (and-left (is_digit b) (list_all is_digit w) h), word_bytes w (and-right (is_digit b) (list_all is_digit w) h)) refl

fits : (n : ℕ) → n < 1000000000000000000 → fits_64_bits (pos n) ≡ true
fits n small = lt-ltb n 9223372036854775808 (omega (arith, small))

read_of : (w : List ℕ) (v : ℕ) → 0 < length w → list_all is_digit w ≡ true → v ≡ digits_from 0 w → v < 1000000000000000000 → number_read w ≡ Some (pos v)
read_of [] v some all is small = absurd (omega (arith, some))
read_of (b ∷ w) v some all is small =
    let low = from_48 b (and-left (is_digit b) (list_all is_digit w) all) in
    let digits : digits_of (b ∷ w) ≡ Some v = rw all (ap Some (sym is)) in
    let read : within_64_bits pos (Some v) ≡ Some (pos v) = rw (fits v small) refl in
    rw (not_below b 43 low (omega arith), not_below b 45 low (omega arith)) (ap (within_64_bits pos) digits ∙ read)

-- the first byte of a number is one of a word
first_byte : (l : List ℕ) (count b : ℕ) (bs : List ℕ) → 0 < count → list_all is_digit (take count l) ≡ true → l ≡ b ∷ bs → is_word_byte b ≡ true
first_byte [] count b bs some all e = absurd cc
first_byte (x ∷ l) zero b bs some all e = absurd (omega (arith, some))
first_byte (x ∷ l) (suc count) b bs some all e =
    let same : x ≡ b = cc in
    subst (λ y. is_word_byte y ≡ true) same (word_byte x (and-left (is_digit x) (list_all is_digit (take count l)) all))

nothing_first : (l : List ℕ) → 0 < length l → first_input_byte l ≡ None → ⊥
nothing_first [] some e = omega (arith, some)
nothing_first (x ∷ l) some e = absurd cc

nothing_left : (l : List ℕ) → 0 < length l → l ≡ [] → ⊥
nothing_left [] some e = omega (arith, some)
nothing_left (x ∷ l) some e = absurd cc

some_after : (l : List ℕ) (n : ℕ) → n < length l → 0 < length (drop n l)
some_after l n lt = let e = length-drop n l in omega (arith, e, lt)

consumes_nothing : (p : Option (List ℕ)) → Consumes p p []
consumes_nothing None = tt
consumes_nothing (Some a) = refl

module _ {R : Type 0} (remaining : R → Option (List ℕ)) where
  -- buffered bytes that were passed
  passes_buffered : (reader : R) (left bytes after : List ℕ) (ended : Bool) → left ≡ bytes ++ after → HasPassed remaining (record { reader = reader; left = left; ended = ended }) (record { reader = reader; left = after; ended = ended }) bytes
  passes_buffered reader left bytes after ended e = record {
    got = [];
    consumed = consumes_nothing (remaining reader);
    after_end = λ q. (refl, q);
    same = append-nil left ∙ e;
  }

  pub buffered_read : (old new : Source R) (gap value count : ℕ) → IsBuffered old gap value count →
      source_block new ≡ record { reader = (source_block old).reader; left = drop (gap + count) (source_block old).left; ended = (source_block old).ended } → source_gap new ≡ 0 →
      HasReadInput remaining old new (λ input rest. value_given Integer input ≡ Ok (record { value = Whole (pos value); rest = rest }))
  buffered_read old new gap value count h block none =
      let n = h.begins in
      let b = source_block old in
      let l = drop gap b.left in
      let w = take count l in
      let mid : Source R = record { block = record { reader = b.reader; left = l; ended = b.ended }; gap = source_gap old + gap; missed = old.missed } in
      let end : Source R = record { block = record { reader = b.reader; left = drop count l; ended = b.ended }; gap = 0; missed = old.missed } in
      let some : 0 < length l = omega (arith, n.long) in
      let long : length w ≡ count = length-take-le count l (omega (arith, n.long)) in
      let reached : HasReached remaining old mid = record {
        passed = record { bytes = take gap b.left; passes = passes_buffered b.reader b.left (take gap b.left) l b.ended (sym (take-append-drop gap b.left)); holds = (h.separators, ap (λ k. source_gap old + k) (length-take-le gap b.left h.within)) };
        next = record { at_end = λ e. absurd (nothing_left l some e); before = λ x xs e. first_byte l count x xs n.some n.digits e };
        small = h.small;
      } in
      let stops : IsNextWanted is_separator (source_block end) = record {
        at_end = λ e. let no : n.byte ∷ n.rest ≡ [] = sym n.after ∙ e in absurd cc;
        before = λ x xs e. let is : n.byte ∷ n.rest ≡ x ∷ xs = sym n.after ∙ e in let same : n.byte ≡ x = cc in subst (λ y. is_separator y ≡ true) same n.stops;
      } in
      let read : number_read w ≡ Some (pos value) = read_of w value (omega (arith, long, n.some)) n.digits n.value_is n.small in
      let found = word_found remaining old mid end reached h.small (nothing_first l some) w (passes_buffered b.reader l w (drop count l) b.ended (sym (take-append-drop count l)), word_bytes w n.digits) (omega (arith, long, n.few)) stops refl in
      let same : source_block end ≡ source_block new = ap (λ t. record { reader = b.reader; left = t; ended = b.ended }) (drop-drop count gap b.left) ∙ sym block in
      reads_moved remaining old end new (λ input rest. value_given Integer input ≡ Ok (record { value = Whole (pos value); rest = rest })) same (sym none)
      (reads_so remaining old end (λ input rest. next_word input ≡ Ok (record { value = w; rest = rest })) (λ input rest. value_given Integer input ≡ Ok (record { value = Whole (pos value); rest = rest }))
      (λ input rest q. ap (read_word Integer) q ∙ ap (λ v. if_read (as_whole v) rest) read) found)

  some_word : (l : List ℕ) → 0 < length l → no_word (Ok l) ≡ Ok false
  some_word [] some = absurd (omega (arith, some))
  some_word (x ∷ l) some = refl

  -- the separators before a word were passed
  pub gap_when_buffered : (old new : Source R) (gap : ℕ) → IsBeforeWord old gap →
      source_block new ≡ record { reader = (source_block old).reader; left = drop gap (source_block old).left; ended = (source_block old).ended } → source_gap new ≡ source_gap old + gap →
      HasReadInput remaining old new (λ input rest. (rest ≡ input) × (is_ended input ≡ Ok false))
  gap_when_buffered old new gap h block count =
      let b = source_block old in
      let l = drop gap b.left in
      let mid : Source R = record { block = record { reader = b.reader; left = l; ended = b.ended }; gap = source_gap old + gap; missed = old.missed } in
      let some : 0 < length l = some_after b.left gap h.within in
      let reached : HasReached remaining old mid = record {
        passed = record { bytes = take gap b.left; passes = passes_buffered b.reader b.left (take gap b.left) l b.ended (sym (take-append-drop gap b.left)); holds = (h.separators, ap (λ k. source_gap old + k) (length-take-le gap b.left (omega (arith, h.within)))) };
        next = record { at_end = λ e. absurd (nothing_left l some e); before = h.stops };
        small = h.small;
      } in
      reads_moved remaining old mid new (λ input rest. (rest ≡ input) × (is_ended input ≡ Ok false)) (sym block) (sym count) (end_found remaining old mid reached false (some_word l some))
