-- Bytes that are passed one after another.
use Rattle.std.proofs.Common.{◌≡◌, ℕ, ◌+◌, Bool, true, List, [], ◌∷◌, ◌++◌, length, take, drop, slice_set, ◌<◌, Option, Some, None, false, refl, sym, ap, subst, ◌∙◌, arith}
use Rattle.std.proofs.lemmas.List.{append_assoc, append-nil, length-append, take_more_set}
use Rattle.ss_input.proofs.Common.{HasGivenBytes, HasPassed, HasPassedSome, is_separator, is_word_byte, IsGapPassed, IsNextWanted, IsWordPassed, list_all, list_all-append, MustAskMore}
use Rattle.std.specs.Io.KnownBytes.{Consumes, Keeps}
use Rattle.ss_input.specs.Blocks.{BlockSeen, HasPeeked, IsUnread, first_input_byte}

pub some_first : (x : ℕ) (l : List ℕ) → Some x ≡ first_input_byte l → l ≡ x ∷ drop 1 l
some_first x [] e = absurd cc
some_first x (y ∷ l) e = cc

-- a byte that was looked at and passed
pub passes_one : {R : Type 0} (remaining : R → Option (List ℕ)) (a b c : BlockSeen R) (x : ℕ) → HasPeeked remaining a b (Some x) → c.left ≡ drop 1 b.left → c.reader ≡ b.reader → c.ended ≡ b.ended → HasPassed remaining a c (x ∷ [])
passes_one remaining a b c x l left reader ended = record {
  got = l.got;
  consumed = subst (λ r. Consumes (remaining a.reader) (remaining r) l.got) (sym reader) l.consumed;
  after_end = λ e. let h = l.after_end e in (h.0, ended ∙ h.1);
  same = sym l.left ∙ some_first x b.left l.byte_is ∙ ap (λ t. x ∷ t) (sym left);
}

-- a byte that was looked at, and is still to be passed
pub passes_look : {R : Type 0} (remaining : R → Option (List ℕ)) (a b : BlockSeen R) (byte : Option ℕ) → HasPeeked remaining a b byte → HasPassed remaining a b []
passes_look remaining a b byte l = record { got = l.got; consumed = l.consumed; after_end = l.after_end; same = sym l.left }

pub next_is : {R : Type 0} (remaining : R → Option (List ℕ)) (is_wanted : ℕ → Bool) (a b : BlockSeen R) (x : ℕ) → HasPeeked remaining a b (Some x) → is_wanted x ≡ true → IsNextWanted is_wanted b
next_is remaining is_wanted a b x l e = record {
  at_end = λ none. let no : Some x ≡ None = l.byte_is ∙ ap first_input_byte none in absurd cc;
  before = λ y bs here. let some : Some x ≡ Some y = l.byte_is ∙ ap first_input_byte here in let same : x ≡ y = cc in subst (λ z. is_wanted z ≡ true) same e;
}

pub next_is_end : {R : Type 0} (remaining : R → Option (List ℕ)) (is_wanted : ℕ → Bool) (a b : BlockSeen R) → HasPeeked remaining a b None → IsNextWanted is_wanted b
next_is_end remaining is_wanted a b l = record {
  at_end = λ none. l.at_end refl;
  before = λ y bs here. let no : None ≡ Some y = l.byte_is ∙ ap first_input_byte here in absurd cc;
}

pub consumes_more : (p q r : Option (List ℕ)) (xs ys : List ℕ) → Consumes p q xs → Consumes q r ys → Consumes p r (xs ++ ys)
consumes_more None q r xs ys h g = tt
consumes_more (Some a) None r xs ys h g = absurd h
consumes_more (Some a) (Some b) None xs ys h g = absurd g
consumes_more (Some a) (Some b) (Some c) xs ys h g = h ∙ ap (λ t. xs ++ t) g ∙ sym (append_assoc xs ys c)

-- one passage and then another
pub passes_then : {R : Type 0} (remaining : R → Option (List ℕ)) (a b c : BlockSeen R) (xs ys : List ℕ) → HasPassed remaining a b xs → HasPassed remaining b c ys → HasPassed remaining a c (xs ++ ys)
passes_then remaining a b c xs ys h g = record {
  got = h.got ++ g.got;
  consumed = consumes_more (remaining a.reader) (remaining b.reader) (remaining c.reader) h.got g.got h.consumed g.consumed;
  after_end = λ e. let u = h.after_end e in let v = g.after_end u.1 in (ap (λ t. t ++ g.got) u.0 ∙ v.0, v.1);
  same = sym (append_assoc a.left h.got g.got) ∙ ap (λ t. t ++ g.got) h.same ∙ append_assoc xs b.left g.got ∙ ap (λ t. xs ++ t) g.same ∙ sym (append_assoc xs ys c.left);
}

-- a passage, and then an error of the reader
pub gives_after : {R : Type 0} (remaining : R → Option (List ℕ)) (a b c : BlockSeen R) (xs : List ℕ) → HasPassed remaining a b xs → IsUnread remaining b c → HasGivenBytes remaining a c
gives_after remaining a b c xs h u = record {
  got = h.got;
  consumed = consumes_kept (remaining a.reader) (remaining b.reader) (remaining c.reader) h.got h.consumed u.kept;
  after_end = λ e. let v = h.after_end e in (v.0, u.ended ∙ v.1);
} where
  consumes_kept : (p q r : Option (List ℕ)) (got : List ℕ) → Consumes p q got → Keeps q r → Consumes p r got
  consumes_kept None q r got h k = tt
  consumes_kept (Some a) None r got h k = absurd h
  consumes_kept (Some a) (Some b) None got h k = absurd k
  consumes_kept (Some a) (Some b) (Some c) got h k = h ∙ ap (λ t. got ++ t) (sym k)

-- an error of the reader, where all that was buffered passed a test
pub wants_after : {R : Type 0} (remaining : R → Option (List ℕ)) (passes : ℕ → Bool) (a b c : BlockSeen R) (xs : List ℕ) → HasPassed remaining a b xs → list_all passes xs ≡ true → IsUnread remaining b c → (b.left ≡ []) × (b.ended ≡ false) → MustAskMore remaining passes a c
unfolding gives_after
wants_after remaining passes a b c xs h all u w =
    let g = gives_after remaining a b c xs h u in
    record {
      passed = record {
        bytes = xs;
        passes = record { got = h.got; consumed = g.consumed; after_end = g.after_end; same = h.same ∙ ap (λ l. xs ++ l) (sym u.left) };
        holds = all;
      };
      none_left = u.left ∙ w.0;
      goes_on = u.ended ∙ w.1;
    }

-- and a passage that gave
pub gives_then : {R : Type 0} (remaining : R → Option (List ℕ)) (a b c : BlockSeen R) (xs : List ℕ) → HasPassed remaining a b xs → HasGivenBytes remaining b c → HasGivenBytes remaining a c
gives_then remaining a b c xs h g = record {
  got = h.got ++ g.got;
  consumed = consumes_more (remaining a.reader) (remaining b.reader) (remaining c.reader) h.got g.got h.consumed g.consumed;
  after_end = λ e. let u = h.after_end e in let v = g.after_end u.1 in (ap (λ t. t ++ g.got) u.0 ∙ v.0, v.1);
}

-- ---- separators

module _ {R : Type 0} (remaining : R → Option (List ℕ)) where
  pub gap_more : (a b c : BlockSeen R) (before n : ℕ) → IsGapPassed remaining a b before n → HasPassedSome remaining b c (λ bytes. (x : ℕ) × (bytes ≡ x ∷ []) × (is_separator x ≡ true)) → IsGapPassed remaining a c before (n + 1)
  gap_more a b c before n h g =
      let one : g.bytes ≡ g.holds.0 ∷ [] = g.holds.1 in
      let sep : is_separator g.holds.0 ≡ true = g.holds.2 in
      record {
        bytes = h.bytes ++ g.bytes;
        passes = passes_then remaining a b c h.bytes g.bytes h.passes g.passes;
        holds = (list_all-append is_separator h.bytes g.bytes ∙ rw (h.holds.0, one, sep) refl, rw (length-append h.bytes g.bytes, one) (omega (arith, h.holds.1)));
      }

  pub gap_stays : (a b c : BlockSeen R) (before n : ℕ) → IsGapPassed remaining a b before n → HasPassed remaining b c [] → IsGapPassed remaining a c before n
  gap_stays a b c before n h g = record {
    bytes = h.bytes;
    passes = subst (HasPassed remaining a c) (append-nil h.bytes) (passes_then remaining a b c h.bytes [] h.passes g);
    holds = h.holds;
  }

  -- ---- words

  pub word_more : (a b c : BlockSeen R) (word : List ℕ) (n x : ℕ) → n < length word → IsWordPassed remaining a b (take n word) → HasPassed remaining b c (x ∷ []) × (is_word_byte x ≡ true) → IsWordPassed remaining a c (take (n + 1) (slice_set word n x))
  word_more a b c word n x lt h g =
      subst (IsWordPassed remaining a c) (sym (take_more_set word n x lt))
      (passes_then remaining a b c (take n word) (x ∷ []) h.0 g.0, list_all-append is_word_byte (take n word) (x ∷ []) ∙ rw (h.1, g.1) refl)

  pub word_stays : (a b c : BlockSeen R) (bytes : List ℕ) → IsWordPassed remaining a b bytes → HasPassed remaining b c [] → IsWordPassed remaining a c bytes
  word_stays a b c bytes h g = (subst (HasPassed remaining a c) (append-nil bytes) (passes_then remaining a b c bytes [] h.0 g), h.1)
