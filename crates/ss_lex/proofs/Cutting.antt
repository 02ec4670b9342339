-- A line is cut in one way.
use Rattle.std.proofs.Common.{◌≡◌, ℕ, zero, suc, ◌+◌, ◌<◌, ◌≤◌, Bool, true, false, ◌&&◌, ◌==◌, List, [], ◌∷◌, ◌++◌, length, length-append, append_assoc, take, drop, refl, sym, ap, ◌∙◌, arith, inl, inr}
use Rattle.ss_lex.proofs.Common.{and_parts, append-nil, cases_Bool, comment, drop-drop, eqb-true, false_from_ne_true, is_apart, is_apostrophe, is_blank_byte, is_closed, is_quotable, is_word_part, IsCutInto, IsFitBefore, LinePiece, list_all, open_comment, open_quoted, opens_comment, or_cases, passes_first, piece_meaning, prefix_len, quoted, separator, single, spelled, word}
use Rattle.ss_base.specs.Values.{is_text_byte}
use Rattle.ss_lex.specs.declared.meaning.PieceMeaning.TheVariants as meanings
use Rattle.ss_lex.specs.Reading.{longer, comment_at, quotable_length, quoted_at, run_length, piece_at, cut, pieces}

-- ---- the longest run of bytes that pass a test

run_splits : (test : ℕ → Bool) (bs : List ℕ) → (bs ≡ take (prefix_len test bs) bs ++ drop (prefix_len test bs) bs) × (list_all test (take (prefix_len test bs) bs) ≡ true) × (passes_first test (drop (prefix_len test bs) bs) ≡ false)
run_splits test [] = (refl, refl, refl)
run_splits test (b ∷ bs) =
    let h = run_splits test bs in
    let k : 1 + prefix_len test bs ≡ suc (prefix_len test bs) = omega arith in
    let all : list_all test (take (prefix_len test bs) bs) ≡ true = h.1 in
    elim (cases_Bool (test b)) [
      | inl p ↦ rw (p, k) (ap (λ l. b ∷ l) h.0, rw (p, all) refl, h.2)
      | inr p ↦ rw p (refl, refl, p)
    ]

run_again : (test : ℕ → Bool) (w rest : List ℕ) → list_all test w ≡ true → passes_first test rest ≡ false → (take (prefix_len test (w ++ rest)) (w ++ rest) ≡ w) × (drop (prefix_len test (w ++ rest)) (w ++ rest) ≡ rest)
run_again test [] [] all stop = (refl, refl)
run_again test [] (r ∷ rest) all stop = rw stop (refl, refl)
run_again test (b ∷ w) rest all stop =
    elim (cases_Bool (test b)) [
      | inl p ↦
          let tail : list_all test w ≡ true = rw p at all in
          let h = run_again test w rest tail stop in
          let k : 1 + prefix_len test (w ++ rest) ≡ suc (prefix_len test (w ++ rest)) = omega arith in
          rw (p, k) (ap (λ l. b ∷ l) h.0, h.1)
      | inr p ↦ let wrong = rw p at all in absurd cc
    ]

-- ---- comments

-- a comment of these bytes
abbrev IsComment : List ℕ → LinePiece × List ℕ → Type 0
IsComment bs (comment body, rest) = (bs ≡ body ++ 39 ∷ 39 ∷ rest) × (is_apart (body ++ 39 ∷ []) ≡ true)
IsComment bs (open_comment body, rest) = (bs ≡ body) × (is_apart body ≡ true) × (rest ≡ [])
IsComment bs (_, rest) = ⊥

-- the first byte is that of the body with an apostrophe after it
quote_same : (body bs rest : List ℕ) → bs ≡ body ++ 39 ∷ 39 ∷ rest → passes_first is_apostrophe (body ++ 39 ∷ []) ≡ passes_first is_apostrophe bs
quote_same [] bs rest e = rw e refl
quote_same (c ∷ body) bs rest e = rw e refl

longer_comment : (b : ℕ) (bs : List ℕ) (c : LinePiece × List ℕ) → opens_comment b bs ≡ false → IsComment bs c → IsComment (b ∷ bs) (longer b c)
longer_comment b bs (comment body, rest) e (h, k) =
    let test : opens_comment b (body ++ 39 ∷ []) ≡ false = ap (λ q. is_apostrophe b && q) (quote_same body bs rest h) ∙ e in
    (ap (λ l. b ∷ l) h, rw test k)
longer_comment b bs (open_comment body, rest) e (h, k, r) =
    let test : opens_comment b body ≡ false = ap (λ l. opens_comment b l) (sym h) ∙ e in
    (ap (λ l. b ∷ l) h, rw test k, r)
longer_comment b bs (_, rest) e h = absurd h

byte_there : (c : ℕ) (bs : List ℕ) → passes_first (λ b. b == c) bs ≡ true → bs ≡ c ∷ drop 1 bs
byte_there c [] e = absurd cc
byte_there c (b ∷ bs) e = ap (λ x. x ∷ bs) (eqb-true b c e)

comment_is : (bs : List ℕ) → IsComment bs (comment_at bs)
unfolding comment_at
comment_is [] = (refl, refl, refl)
comment_is (b ∷ bs) = go (opens_comment b bs) refl (comment_is bs)
  where
    go : (t : Bool) → opens_comment b bs ≡ t → IsComment bs (comment_at bs) → IsComment (b ∷ bs) (comment_at (b ∷ bs))
    go true e ih =
        let two = and_parts (is_apostrophe b) (passes_first is_apostrophe bs) e in
        rw e (λ i. eqb-true b 39 two.0 i ∷ byte_there 39 bs two.1 i, refl)
    go false e ih = rw e (longer_comment b bs (comment_at bs) e ih)

comment_fits : (bs : List ℕ) (c : LinePiece × List ℕ) → IsComment bs c → (39 ∷ 39 ∷ bs ≡ spelled c.0 ++ c.1) × IsFitBefore c.0 c.1
comment_fits bs (comment body, rest) (h, k) = (ap (λ l. 39 ∷ 39 ∷ l) (h ∙ sym (append_assoc body (39 ∷ 39 ∷ []) rest)), k)
comment_fits bs (open_comment body, rest) (h, k, r) = (ap (λ l. 39 ∷ 39 ∷ l) (h ∙ sym (append-nil body) ∙ ap (λ r. body ++ r) (sym r)), (k, r))
comment_fits bs (_, rest) h = absurd h

-- what fits is read
comment_again : (body rest : List ℕ) → is_apart (body ++ 39 ∷ []) ≡ true → comment_at (body ++ 39 ∷ 39 ∷ rest) ≡ (comment body, rest)
unfolding comment_at
comment_again [] rest k = refl
comment_again (b ∷ body) rest k = go (opens_comment b (body ++ 39 ∷ [])) refl (comment_again body rest)
  where
    go : (t : Bool) → opens_comment b (body ++ 39 ∷ []) ≡ t → (is_apart (body ++ 39 ∷ []) ≡ true → comment_at (body ++ 39 ∷ 39 ∷ rest) ≡ (comment body, rest)) → comment_at ((b ∷ body) ++ 39 ∷ 39 ∷ rest) ≡ (comment (b ∷ body), rest)
    go true e ih = let wrong = rw e at k in absurd cc
    go false e ih =
        let test : opens_comment b (body ++ 39 ∷ 39 ∷ rest) ≡ false = ap (λ q. is_apostrophe b && q) (sym (quote_same body (body ++ 39 ∷ 39 ∷ rest) rest refl)) ∙ e in
        let read = ih (rw e at k) in
        rw (test, read) refl

open_comment_again : (body : List ℕ) → is_apart body ≡ true → comment_at body ≡ (open_comment body, [])
unfolding comment_at
open_comment_again [] k = refl
open_comment_again (b ∷ body) k = go (opens_comment b body) refl (open_comment_again body)
  where
    go : (t : Bool) → opens_comment b body ≡ t → (is_apart body ≡ true → comment_at body ≡ (open_comment body, [])) → comment_at (b ∷ body) ≡ (open_comment (b ∷ body), [])
    go true e ih = let wrong = rw e at k in absurd cc
    go false e ih = let read = ih (rw e at k) in rw (e, read) refl

-- ---- texts

quote_not_quotable : (b : ℕ) → (b == 34) ≡ true → is_quotable b ≡ false
quote_not_quotable b e = let same = eqb-true b 34 e in ap is_quotable same

-- a text is closed where a quote follows its quotable bytes
pub closed_is : (bs : List ℕ) → is_closed bs ≡ passes_first (λ b. b == 34) (drop (quotable_length bs) bs)
closed_is [] = refl
closed_is (b ∷ bs) =
    let ih = closed_is bs in
    let k : 1 + quotable_length bs ≡ suc (quotable_length bs) = omega arith in
    elim (cases_Bool (b == 34)) [
      | inl q ↦ let stop = quote_not_quotable b q in rw (stop, q) refl
      | inr q ↦ elim (cases_Bool (is_text_byte b)) [
        | inl t ↦ let go : is_quotable b ≡ true = rw (q, t) refl in rw (go, k, q, t) ih
        | inr t ↦ let stop : is_quotable b ≡ false = rw t refl in rw (stop, q, t) refl
      ]
    ]

quoted_fits : (bs : List ℕ) → (34 ∷ bs ≡ spelled (quoted_at bs).0 ++ (quoted_at bs).1) × IsFitBefore (quoted_at bs).0 (quoted_at bs).1
unfolding quoted_at
quoted_fits bs =
    elim (cases_Bool (is_closed bs)) [
      | inl e ↦
          let h = run_splits is_quotable bs in
          let there = byte_there 34 (drop (quotable_length bs) bs) (sym (closed_is bs) ∙ e) in
          let after : drop 1 (drop (quotable_length bs) bs) ≡ drop (quotable_length bs + 1) bs = drop-drop 1 (quotable_length bs) bs in
          let split : bs ≡ take (quotable_length bs) bs ++ 34 ∷ drop (quotable_length bs + 1) bs = h.0 ∙ ap (λ l. take (quotable_length bs) bs ++ l) (there ∙ ap (λ l. 34 ∷ l) after) in
          rw e (ap (λ l. 34 ∷ l) (split ∙ sym (append_assoc (take (quotable_length bs) bs) (34 ∷ []) (drop (quotable_length bs + 1) bs))), h.1)
      | inr e ↦ rw e (ap (λ l. 34 ∷ l) (sym (append-nil bs)), (e, refl))
    ]

closed_body : (body rest : List ℕ) → list_all is_quotable body ≡ true → is_closed (body ++ 34 ∷ rest) ≡ true
closed_body body rest all =
    let h = run_again is_quotable body (34 ∷ rest) all refl in
    closed_is (body ++ 34 ∷ rest) ∙ ap (passes_first (λ b. b == 34)) h.1

quoted_again : (body rest : List ℕ) → list_all is_quotable body ≡ true → quoted_at (body ++ 34 ∷ rest) ≡ (quoted body, rest)
unfolding quoted_at
quoted_again body rest all =
    let h = run_again is_quotable body (34 ∷ rest) all refl in
    let closed = closed_body body rest all in
    let after : drop (quotable_length (body ++ 34 ∷ rest) + 1) (body ++ 34 ∷ rest) ≡ rest = sym (drop-drop 1 (quotable_length (body ++ 34 ∷ rest)) (body ++ 34 ∷ rest)) ∙ ap (drop 1) h.1 in
    rw closed (λ i. (quoted (h.0 i), after i))

split : (b c : ℕ) (bs cs : List ℕ) → b ∷ bs ≡ c ∷ cs → (b ≡ c) × (bs ≡ cs)
split b c bs cs e = (cc, cc)

open_again : (body rest : List ℕ) → (is_closed body ≡ false) × (rest ≡ []) → (b : ℕ) (bs : List ℕ) → b ∷ bs ≡ 34 ∷ (body ++ rest) → piece_at b bs ≡ (open_quoted body, rest)
unfolding piece_at quoted_at
open_again body rest f b bs e =
    let h = split b 34 bs (body ++ rest) e in
    let whole : body ++ rest ≡ body = ap (λ r. body ++ r) f.1 ∙ append-nil body in
    let unclosed = f.0 in
    (λ i. piece_at (h.0 i) (h.1 i)) ∙ (ap quoted_at whole ∙ rw unclosed (ap (λ r. (open_quoted body, r)) (sym f.1)))

-- ---- a line

piece_fits : (b : ℕ) (bs : List ℕ) → ((b ∷ bs) ≡ spelled (piece_at b bs).0 ++ (piece_at b bs).1) × IsFitBefore (piece_at b bs).0 (piece_at b bs).1
unfolding piece_at
piece_fits b bs =
    elim (cases_Bool (is_blank_byte b)) [
      | inl p ↦ rw p (refl, p)
      | inr p ↦
          elim (cases_Bool (is_word_part b)) [
            | inl q ↦ let h = run_splits is_word_part bs in let all : list_all is_word_part (take (run_length bs) bs) ≡ true = h.1 in rw (p, q) (ap (λ l. b ∷ l) h.0, (omega arith, rw (q, all) refl, h.2))
            | inr q ↦
                elim (cases_Bool (opens_comment b bs)) [
                  | inl r ↦
                      let two = and_parts (is_apostrophe b) (passes_first is_apostrophe bs) r in
                      let h = comment_fits (drop 1 bs) (comment_at (drop 1 bs)) (comment_is (drop 1 bs)) in
                      rw (p, q, r) ((λ i. eqb-true b 39 two.0 i ∷ byte_there 39 bs two.1 i) ∙ h.0, h.1)
                  | inr r ↦
                      elim (cases_Bool (b == 34)) [
                        | inl s ↦ let h = quoted_fits bs in rw (p, q, r, s) (ap (λ x. x ∷ bs) (eqb-true b 34 s) ∙ h.0, h.1)
                        | inr s ↦ rw (p, q, r, s) (refl, (p, q, s, r))
                      ]
                ]
          ]
    ]

-- a piece takes a byte at least
spelled_some : (p : LinePiece) (rest : List ℕ) → IsFitBefore p rest → 0 < length (spelled p)
spelled_some (word w) rest f = f.0
spelled_some _ rest f = omega arith

cut_sound : (n : ℕ) (bytes : List ℕ) → length bytes ≤ n → IsCutInto (cut n bytes) bytes
cut_sound zero [] le = refl
cut_sound zero (b ∷ bs) le = absurd (omega arith)
cut_sound (suc n) [] le = refl
cut_sound (suc n) (b ∷ bs) le =
    let h = piece_fits b bs in
    let some = spelled_some (piece_at b bs).0 (piece_at b bs).1 h.1 in
    ((piece_at b bs).1, h.0, h.1, cut_sound n (piece_at b bs).1 (omega (arith, ap length h.0, length-append (spelled (piece_at b bs).0) (piece_at b bs).1)))

-- what fits is cut
word_no_separator : (b : ℕ) → is_word_part b ≡ true → is_blank_byte b ≡ false
word_no_separator b w =
    false_from_ne_true (is_blank_byte b) (λ e. elim (or_cases (b == 32) _ e) [
      | inl p ↦ (let wrong = rw (eqb-true b 32 p) at w in absurd cc)
      | inr p ↦ elim (or_cases (b == 9) _ p) [
        | inl q ↦ (let wrong = rw (eqb-true b 9 q) at w in absurd cc)
        | inr q ↦ (let wrong = rw (eqb-true b 13 q) at w in absurd cc)
      ]
    ])

piece_again : (p : LinePiece) (rest : List ℕ) → IsFitBefore p rest → (b : ℕ) (bs : List ℕ) → b ∷ bs ≡ spelled p ++ rest → piece_at b bs ≡ (p, rest)
unfolding piece_at
piece_again (separator c) rest f b bs e =
    let h = split b c bs rest e in
    let t : is_blank_byte b ≡ true = ap is_blank_byte h.0 ∙ f in
    rw t (λ i. (separator (h.0 i), h.1 i))
piece_again (single c) rest f b bs e =
    let h = split b c bs rest e in
    let t : is_blank_byte b ≡ false = ap is_blank_byte h.0 ∙ f.0 in
    let u : is_word_part b ≡ false = ap is_word_part h.0 ∙ f.1 in
    let v : opens_comment b bs ≡ false = (λ i. opens_comment (h.0 i) (h.1 i)) ∙ f.3 in
    let w : (b == 34) ≡ false = ap (λ x. x == 34) h.0 ∙ f.2 in
    rw (t, u, v, w) (λ i. (single (h.0 i), h.1 i))
piece_again (word []) rest f b bs e = absurd (omega (arith, f.0))
piece_again (word (c ∷ w)) rest f b bs e =
    let h = split b c bs (w ++ rest) e in
    let all = and_parts (is_word_part c) (list_all is_word_part w) f.1 in
    let u : is_word_part b ≡ true = ap is_word_part h.0 ∙ all.0 in
    let t : is_blank_byte b ≡ false = word_no_separator b u in
    let g = run_again is_word_part w rest all.1 f.2 in
    rw (t, u) ((λ i. (word (h.0 i ∷ take (run_length (h.1 i)) (h.1 i)), drop (run_length (h.1 i)) (h.1 i))) ∙ (λ i. (word (c ∷ g.0 i), g.1 i)))
piece_again (comment body) rest f b bs e =
    let h = split b 39 bs (39 ∷ ((body ++ 39 ∷ 39 ∷ []) ++ rest)) e in
    (λ i. piece_at (h.0 i) (h.1 i)) ∙ (ap comment_at (append_assoc body (39 ∷ 39 ∷ []) rest) ∙ comment_again body rest f)
piece_again (open_comment body) rest f b bs e =
    let h = split b 39 bs (39 ∷ (body ++ rest)) e in
    (λ i. piece_at (h.0 i) (h.1 i)) ∙ (ap comment_at (ap (λ r. body ++ r) f.1 ∙ append-nil body) ∙ (open_comment_again body f.0 ∙ ap (λ r. (open_comment body, r)) (sym f.1)))
piece_again (quoted body) rest f b bs e =
    let h = split b 34 bs ((body ++ 34 ∷ []) ++ rest) e in
    (λ i. piece_at (h.0 i) (h.1 i)) ∙ (ap quoted_at (append_assoc body (34 ∷ []) rest) ∙ quoted_again body rest f)
piece_again (open_quoted body) rest f b bs e = open_again body rest f b bs e

pub cut_complete : (ps : List LinePiece) (n : ℕ) (bytes : List ℕ) → length bytes ≤ n → IsCutInto ps bytes → cut n bytes ≡ ps
cut_complete [] zero bytes le c = refl
cut_complete [] (suc n) [] le c = refl
cut_complete [] (suc n) (b ∷ bs) le c = absurd cc
cut_complete (p ∷ ps) n [] le (rest, e, f, c) = absurd (omega (arith, spelled_some p rest f, ap length e, length-append (spelled p) rest))
cut_complete (p ∷ ps) zero (b ∷ bs) le (rest, e, f, c) = absurd (omega arith)
cut_complete (p ∷ ps) (suc n) (b ∷ bs) le (rest, e, f, c) =
    let one = piece_again p rest f b bs e in
    let more = cut_complete ps n rest (omega (arith, spelled_some p rest f, ap length e, length-append (spelled p) rest)) c in
    rw one (ap (λ qs. p ∷ qs) more)

pub pieces_sound : (line : List ℕ) → IsCutInto (pieces line) line
unfolding pieces
pieces_sound line = cut_sound (length line) line (omega arith)

pub pieces_complete : (ps : List LinePiece) (line : List ℕ) → IsCutInto ps line → pieces line ≡ ps
unfolding pieces
pieces_complete ps line c = cut_complete ps (length line) line (omega arith) c

-- ---- the loop over a comment

pub comment_ends : (r : List ℕ) (b : ℕ) (bs : List ℕ) → r ≡ b ∷ bs → opens_comment b bs ≡ true → (comment_at r).1 ≡ drop 1 bs
unfolding comment_at
comment_ends r b bs e t = rw (e, t) refl

longer_rest : (b : ℕ) (c : LinePiece × List ℕ) → (longer b c).1 ≡ c.1
longer_rest b (comment body, rest) = refl
longer_rest b (_, rest) = refl

pub comment_goes_on : (r : List ℕ) (b : ℕ) (bs : List ℕ) → r ≡ b ∷ bs → opens_comment b bs ≡ false → (comment_at r).1 ≡ (comment_at bs).1
unfolding comment_at
comment_goes_on r b bs e t = rw (e, t) (longer_rest b (comment_at bs))

pub comment_stops : (r : List ℕ) → r ≡ [] → r ≡ (comment_at r).1
unfolding comment_at
comment_stops r e = rw e refl

means_nothing : (bs : List ℕ) (c : LinePiece × List ℕ) → IsComment bs c → piece_meaning c.0 ≡ meanings.Nothing
means_nothing bs (comment body, rest) h = refl
means_nothing bs (open_comment body, rest) h = refl
means_nothing bs (_, rest) h = absurd h

pub comment_meaning : (bs : List ℕ) → piece_meaning (comment_at bs).0 ≡ meanings.Nothing
comment_meaning bs = means_nothing bs (comment_at bs) (comment_is bs)

-- ---- the place of a piece

pub piece_place : (b : ℕ) (bs : List ℕ) → (0 < length (spelled (piece_at b bs).0)) × (length (spelled (piece_at b bs).0) + length (piece_at b bs).1 ≡ length (b ∷ bs))
piece_place b bs =
    let h = piece_fits b bs in
    (spelled_some (piece_at b bs).0 (piece_at b bs).1 h.1, omega (arith, ap length h.0, length-append (spelled (piece_at b bs).0) (piece_at b bs).1))
