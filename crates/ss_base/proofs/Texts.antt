-- Texts, the blanks at their end, and the zeros after them.
use Rattle.std.proofs.Common.{◌≡◌, ℕ, ◌+◌, ◌-◌, ◌≤◌, ◌<◌, Bool, true, false, List, [], ◌∷◌, ◌++◌, length, take, drop, get_or, refl, ◌∙◌, ap, cond, suc, zero}
use Rattle.std.proofs.lemmas.Bool.{ne_eqb, and_from, and_parts, le-leb}
use Rattle.std.proofs.lemmas.List.{take_more, drop-replicate}
use Rattle.std.specs.Prelude.{◌≢◌, ◌==◌, nat_le, replicate, Some}
use Rattle.std.specs.List.{list_all}
use Rattle.ss_base.specs.Values.{text_limit, is_text_byte, in_front, without_end_blanks, text_of}
use Rattle.ss_base.specs.Room.{before_zero, padded_text, IsTextRoom}

-- a blank at the end is dropped
pub without_end_blanks-blank : (xs : List ℕ) → without_end_blanks (xs ++ 32 ∷ []) ≡ without_end_blanks xs
without_end_blanks-blank [] = refl
without_end_blanks-blank (x ∷ xs) = ap (in_front x) (without_end_blanks-blank xs)

in_front-append : (x : ℕ) (xs : List ℕ) (b : ℕ) → in_front x (xs ++ b ∷ []) ≡ x ∷ xs ++ b ∷ []
in_front-append x [] b = refl
in_front-append x (y ∷ ys) b = refl

-- another byte at the end keeps all bytes
pub without_end_blanks-other : (xs : List ℕ) (b : ℕ) → b ≢ 32 → without_end_blanks (xs ++ b ∷ []) ≡ xs ++ b ∷ []
without_end_blanks-other [] b e = rw (ne_eqb b 32 e) refl
without_end_blanks-other (x ∷ xs) b e = ap (in_front x) (without_end_blanks-other xs b e) ∙ in_front-append x xs b

-- one step over the bytes, at a blank and at another byte
pub trimmed-blank : (bytes : List ℕ) (i : ℕ) → i < length bytes → get_or bytes i 0 ≡ 32 → without_end_blanks (take (i + 1) bytes) ≡ without_end_blanks (take i bytes)
trimmed-blank bytes i h e = rw (take_more bytes i 0 h, e) (without_end_blanks-blank (take i bytes))

pub trimmed-other : (bytes : List ℕ) (i : ℕ) → i < length bytes → get_or bytes i 0 ≢ 32 → without_end_blanks (take (i + 1) bytes) ≡ take (i + 1) bytes
trimmed-other bytes i h e = rw (take_more bytes i 0 h) (without_end_blanks-other (take i bytes) (get_or bytes i 0) e)

-- what is left without the blanks at the end is printable where all was
in_front-printable : (b : ℕ) (bs : List ℕ) → is_text_byte b ≡ true → list_all is_text_byte bs ≡ true → list_all is_text_byte (in_front b bs) ≡ true
in_front-printable b [] h k =
    elim (b == 32) as (λ v. list_all is_text_byte (cond v [] (b ∷ [])) ≡ true) [ true ↦ refl | false ↦ and_from (is_text_byte b) true h refl ]
in_front-printable b (c ∷ cs) h k = and_from (is_text_byte b) (list_all is_text_byte (c ∷ cs)) h k

pub without_end_blanks-printable : (bytes : List ℕ) → list_all is_text_byte bytes ≡ true → list_all is_text_byte (without_end_blanks bytes) ≡ true
without_end_blanks-printable [] h = refl
without_end_blanks-printable (b ∷ bs) h =
    let p = and_parts (is_text_byte b) (list_all is_text_byte bs) h in
    in_front-printable b (without_end_blanks bs) p.0 (without_end_blanks-printable bs p.1)

-- what has no blank at its end has none with a byte in front of it
in_front-trimmed : (b : ℕ) (bs : List ℕ) → without_end_blanks bs ≡ bs → without_end_blanks (in_front b bs) ≡ in_front b bs
in_front-trimmed b [] h = by_test (b == 32) refl where
  by_test : (t : Bool) → (b == 32) ≡ t → without_end_blanks (cond (b == 32) [] (b ∷ [])) ≡ cond (b == 32) [] (b ∷ [])
  by_test true e = rw e refl
  by_test false e = rw e (rw e refl)
in_front-trimmed b (c ∷ cs) h = rw h refl

pub without_end_blanks-again : (bytes : List ℕ) → without_end_blanks (without_end_blanks bytes) ≡ without_end_blanks bytes
without_end_blanks-again [] = refl
without_end_blanks-again (b ∷ bs) = in_front-trimmed b (without_end_blanks bs) (without_end_blanks-again bs)

-- a printable byte is no zero, so a text ends where the first zero is
pub before_zero-padded : (text : List ℕ) (k : ℕ) → list_all is_text_byte text ≡ true → before_zero (text ++ replicate k 0) ≡ text
before_zero-padded [] zero h = refl
before_zero-padded [] (suc k) h = refl
before_zero-padded (zero ∷ bs) k h = cc
before_zero-padded (suc b ∷ bs) k h =
    let p = and_parts (is_text_byte (suc b)) (list_all is_text_byte bs) h in ap (λ rest. suc b ∷ rest) (before_zero-padded bs k p.1)

-- a text of these bytes, with the zeros after it, fills its room
pub is_room-of : (bytes : List ℕ) → list_all is_text_byte bytes ≡ true → length (without_end_blanks bytes) ≤ text_limit → IsTextRoom (padded_text (without_end_blanks bytes))
is_room-of bytes h k =
    let text = without_end_blanks bytes in
    let printable = without_end_blanks-printable bytes h in
    let is = before_zero-padded text (text_limit - length text) printable in
    record {
      text = rw is (record { printable = printable; short = k; trimmed = without_end_blanks-again bytes });
      zeros = ap padded_text is;
    }

-- a text that is copied into zeros has zeros after it
pub placed : (bytes text copied : List ℕ) → text ≡ without_end_blanks bytes → copied ≡ text → copied ++ drop (length text) (replicate text_limit 0) ≡ padded_text (without_end_blanks bytes)
placed bytes text copied is same = rw (same, is, drop-replicate {X = ℕ} (length (without_end_blanks bytes)) text_limit 0) refl

pub placed-room : (bytes text copied : List ℕ) → list_all is_text_byte bytes ≡ true → text ≡ without_end_blanks bytes → length text ≤ text_limit → copied ≡ text → IsTextRoom (copied ++ drop (length text) (replicate text_limit 0))
placed-room bytes text copied h is k same = rw (placed bytes text copied is same) (is_room-of bytes h (rw is at k))

pub placed-value : (bytes text copied : List ℕ) → list_all is_text_byte bytes ≡ true → text ≡ without_end_blanks bytes → length text ≤ text_limit → copied ≡ text → Some (before_zero (copied ++ drop (length text) (replicate text_limit 0))) ≡ text_of bytes
placed-value bytes text copied h is k same =
    let e = before_zero-padded (without_end_blanks bytes) (text_limit - length (without_end_blanks bytes)) (without_end_blanks-printable bytes h) in
    let small : nat_le (length (without_end_blanks bytes)) text_limit ≡ true = le-leb _ _ (rw is at k) in
    rw (placed bytes text copied is same, e, h, small) refl
