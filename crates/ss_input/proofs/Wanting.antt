-- Where the reader failed, more of its bytes were needed.
use Rattle.std.proofs.Common.{◌≡◌, ℕ, Bool, true, List, [], ◌∷◌, ◌++◌, Option, refl, ap, ◌∙◌}
use Rattle.std.proofs.lemmas.Bool.{and_parts, not-true}
use Rattle.ss_input.proofs.Common.{append-nil, BlockSeen, is_separator, is_word_byte, list_all}
use Rattle.ss_input.specs.Sources.{IsGapPassed, MustAskMore, IsLackingWord, after_while}
use Rattle.ss_input.proofs.Passages.{passes_then}

-- nothing comes after bytes that all pass
pub after_all : (p : ℕ → Bool) (bs : List ℕ) → list_all p bs ≡ true → after_while p bs ≡ []
after_all p [] e = refl
after_all p (b ∷ bs) e = let parts = and_parts (p b) (list_all p bs) e in rw parts.0 (after_all p bs parts.1)

word_first : (w : List ℕ) → list_all is_word_byte w ≡ true → after_while is_separator w ≡ w
word_first [] e = refl
word_first (x ∷ w) e = let parts = and_parts (is_word_byte x) (list_all is_word_byte w) e in rw (not-true (is_separator x) parts.0) refl

after_gap : (gap w : List ℕ) → list_all is_separator gap ≡ true → list_all is_word_byte w ≡ true → after_while is_separator (gap ++ w) ≡ w
after_gap [] w s e = word_first w e
after_gap (b ∷ gap) w s e = let parts = and_parts (is_separator b) (list_all is_separator gap) s in rw parts.0 (after_gap gap w parts.1 e)

-- separators and then the bytes of a word
pub short_so : (gap w : List ℕ) → list_all is_separator gap ≡ true → list_all is_word_byte w ≡ true → after_while is_word_byte (after_while is_separator (gap ++ w)) ≡ []
short_so gap w s e = ap (after_while is_word_byte) (after_gap gap w s e) ∙ after_all is_word_byte w e

module _ {R : Type 0} (remaining : R → Option (List ℕ)) where
  -- the reader failed before the word
  pub lacks_gap : (a c : BlockSeen R) → MustAskMore remaining is_separator a c → IsLackingWord remaining a c
  lacks_gap a c h =
      let p = h.passed.passes in
      let all : a.left ++ p.got ≡ h.passed.bytes = p.same ∙ ap (λ l. h.passed.bytes ++ l) h.none_left ∙ append-nil h.passed.bytes in
      record {
        got = p.got;
        consumed = p.consumed;
        after_end = p.after_end;
        short = ap (λ l. after_while is_word_byte (after_while is_separator l)) all ∙ ap (after_while is_word_byte) (after_all is_separator h.passed.bytes h.passed.holds);
        goes_on = h.goes_on;
      }

  -- and within it
  pub lacks_word : (a b c : BlockSeen R) (before count : ℕ) → IsGapPassed remaining a b before count → MustAskMore remaining is_word_byte b c → IsLackingWord remaining a c
  lacks_word a b c before count g h =
      let p = passes_then remaining a b c g.bytes h.passed.bytes g.passes h.passed.passes in
      let all : a.left ++ p.got ≡ g.bytes ++ h.passed.bytes = p.same ∙ ap (λ l. (g.bytes ++ h.passed.bytes) ++ l) h.none_left ∙ append-nil (g.bytes ++ h.passed.bytes) in
      record {
        got = p.got;
        consumed = p.consumed;
        after_end = p.after_end;
        short = ap (λ l. after_while is_word_byte (after_while is_separator l)) all ∙ short_so g.bytes h.passed.bytes g.holds.0 h.passed.holds;
        goes_on = h.goes_on;
      }
