-- When the reader is asked.
use Rattle.std.proofs.Common.{◌≡◌, ◌≢◌, inl, inr, ℕ, Bool, true, List, [], ◌∷◌, drop, Some, refl, sym, ap, ◌∙◌}
use Rattle.std.proofs.lemmas.Bool.{not-true}
use Rattle.ss_input.proofs.Common.{BlockSeen, first_input_byte, is_separator, is_word_byte}
use Rattle.ss_input.specs.Sources.{after_while, IsEnough, IsUnasked, IsNextWanted, HasWord}
use Rattle.ss_input.proofs.Passages.{some_first}

skips : (passes : ℕ → Bool) (x : ℕ) (l : List ℕ) → passes x ≡ true → after_while passes (x ∷ l) ≡ after_while passes l
skips passes x l e = rw e refl

module _ {R : Type 0} (passes : ℕ → Bool) where
  stays : (a b : BlockSeen R) → (a.left ≢ [] → b ≡ a) → (a.ended ≡ true → b ≡ a) → IsEnough passes a → b ≡ a
  stays a b buffered after_end (inl end) = after_end end
  stays a b buffered after_end (inr some) = buffered (λ none. some (ap (after_while passes) none))

  -- a look
  pub unasked_look : (a b : BlockSeen R) → (a.left ≢ [] → b ≡ a) → (a.ended ≡ true → b ≡ a) → IsEnough passes a → IsUnasked passes a b
  unasked_look a b buffered after_end enough =
      let same : b ≡ a = stays a b buffered after_end enough in
      record {
        reader = ap (λ (k : BlockSeen R). k.reader) same;
        ended = ap (λ (k : BlockSeen R). k.ended) same;
        same = ap (λ (k : BlockSeen R). after_while passes k.left) same;
      }

  -- a look at a byte that is passed then
  pub unasked_one : (a b c : BlockSeen R) (x : ℕ) → (a.left ≢ [] → b ≡ a) → (a.ended ≡ true → b ≡ a) → Some x ≡ first_input_byte b.left → passes x ≡ true
      → c.left ≡ drop 1 b.left → c.reader ≡ b.reader → c.ended ≡ b.ended → IsEnough passes a → IsUnasked passes a c
  unasked_one a b c x buffered after_end first good left reader ended enough =
      let same : b ≡ a = stays a b buffered after_end enough in
      record {
        reader = reader ∙ ap (λ (k : BlockSeen R). k.reader) same;
        ended = ended ∙ ap (λ (k : BlockSeen R). k.ended) same;
        same =
            ap (after_while passes) left ∙ sym (skips passes x (drop 1 b.left) good) ∙ ap (after_while passes) (sym (some_first x b.left first))
            ∙ ap (λ (k : BlockSeen R). after_while passes k.left) same;
      }

  still : (a b : BlockSeen R) → IsUnasked passes a b → IsEnough passes a → IsEnough passes b
  still a b kept (inl end) = inl (kept.ended ∙ end)
  still a b kept (inr some) = inr (λ none. some (sym kept.same ∙ none))

  -- one passage and then another
  pub unasked_then : (a b c : BlockSeen R) → (IsEnough passes a → IsUnasked passes a b) → (IsEnough passes b → IsUnasked passes b c) → IsEnough passes a → IsUnasked passes a c
  unasked_then a b c first second enough =
      let h = first enough in
      let k = second (still a b h enough) in
      record { reader = k.reader ∙ h.reader; ended = k.ended ∙ h.ended; same = k.same ∙ h.same }

-- ---- a word

-- before a word there is no separator
no_gap : {R : Type 0} (b : BlockSeen R) → IsNextWanted is_word_byte b → after_while is_separator b.left ≡ b.left
no_gap b h = by-left b.left refl
  where
    by-left : (l : List ℕ) → b.left ≡ l → after_while is_separator l ≡ l
    by-left [] e = refl
    by-left (y ∷ l) e = rw (not-true (is_separator y) (h.before y l e)) refl

enough_gap : {R : Type 0} (a : BlockSeen R) → HasWord a → IsEnough is_separator a
enough_gap a (inl end) = inl end
enough_gap a (inr some) = inr (λ none. some (ap (after_while is_word_byte) none))

enough_word : {R : Type 0} (a b : BlockSeen R) → IsUnasked is_separator a b → IsNextWanted is_word_byte b → HasWord a → IsEnough is_word_byte b
enough_word a b kept before (inl end) = inl (kept.ended ∙ end)
enough_word a b kept before (inr some) =
    inr (λ none. some (ap (after_while is_word_byte) (sym kept.same ∙ no_gap b before) ∙ none))

-- the separators before a word and its bytes
pub gap_unasked : {R : Type 0} (a b : BlockSeen R) → (IsEnough is_separator a → IsUnasked is_separator a b) → HasWord a → b.reader ≡ a.reader
gap_unasked a b gap has = let h = gap (enough_gap a has) in h.reader

pub word_unasked : {R : Type 0} (a b c : BlockSeen R) → (IsEnough is_separator a → IsUnasked is_separator a b) → IsNextWanted is_word_byte b
    → (IsEnough is_word_byte b → IsUnasked is_word_byte b c) → HasWord a → c.reader ≡ a.reader
word_unasked a b c gap before word has =
    let h = gap (enough_gap a has) in
    let k = word (enough_word a b h before has) in
    k.reader ∙ h.reader
