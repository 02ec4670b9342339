-- Reading a text, from line to line.
use Rattle.std.proofs.Common.{◌≡◌, ℕ, zero, suc, ◌+◌, ◌-◌, ◌<◌, ◌≤◌, max, List, [], ◌∷◌, ◌++◌, length, Option, Some, MatchOption, append_assoc, refl, sym, ap, subst, ◌∙◌, arith, inl, inr, ◌==◌}
use Rattle.ss_lex.proofs.Common.{append-nil, AreTokensOf, called_by, cases_Bool, IsCodeLineRead, IsLineRead, IsLineRefused, IsRefusedIn, IsTextReadTo, LexError, line_refusal, lines_of, picture_at, pieces, Token, tokens_of, with_byte_first}
use Rattle.ss_lex.proofs.Cutting.{pieces_sound}
use Rattle.ss_lex.proofs.TextLaws.{line_sound}

-- ---- a line

pub code_read : (bytes : List ℕ) (start line left due : ℕ) (old new : List Token) (due' : ℕ) → due ≡ 0 → IsCodeLineRead bytes start line left old new due' → IsLineRead bytes start line left due old new due'
code_read bytes start line left (suc n) old new due z r = absurd (omega arith)
code_read bytes start line left zero old new due z r =
    let here = tokens_of (pieces bytes) start line in
    let sound = line_sound (pieces bytes) old start line left r.sound in
    record {
      within = omega (arith, r.called, sound.1);
      found = λ lines more n h. (here, r.tokens, (pieces bytes, more, pieces_sound bytes, sound.0, refl, subst (λ (p : ℕ × List Token). AreTokensOf lines p.0 p.1 (start + length bytes + 1) (line + 1) more) (λ i. (r.called i, r.tokens i)) h));
      refused = λ lines refusal n h. (pieces bytes, pieces_sound bytes, subst (λ (o : Option LexError). MatchOption o (IsRefusedIn lines (called_by old here) (old ++ here) (start + length bytes + 1) (line + 1) refusal) (λ first. refusal ≡ first)) (sym (ap (line_refusal (pieces bytes) old start line) n ∙ r.sound)) (subst (λ (p : ℕ × List Token). IsRefusedIn lines p.0 p.1 (start + length bytes + 1) (line + 1) refusal) (λ i. (r.called i, r.tokens i)) h));
    }

pub code_refused : (bytes : List ℕ) (start line left due : ℕ) (old : List Token) (refusal : LexError) → due ≡ 0 → line_refusal (pieces bytes) old start line left ≡ Some refusal → IsLineRefused bytes start line left due old refusal
code_refused bytes start line left (suc n) old refusal z e = absurd (omega arith)
code_refused bytes start line left zero old refusal z e =
    λ lines n. (pieces bytes, pieces_sound bytes, subst (λ (o : Option LexError). MatchOption o (IsRefusedIn lines (called_by old (tokens_of (pieces bytes) start line)) (old ++ tokens_of (pieces bytes) start line) (start + length bytes + 1) (line + 1) refusal) (λ first. refusal ≡ first)) (sym (ap (line_refusal (pieces bytes) old start line) n ∙ e)) refl)

pub picture_read : (bytes : List ℕ) (start line left due : ℕ) (old new : List Token) → 0 < due → due ≤ left + 1 → new ≡ old ++ picture_at bytes start line ∷ [] → IsLineRead bytes start line left due old new (due - 1)
picture_read bytes start line left zero old new some le e = absurd (omega arith)
picture_read bytes start line left (suc due) old new some le e =
    let k : suc due - 1 ≡ due = omega arith in
    record {
      within = omega arith;
      found = λ lines more n h. (picture_at bytes start line ∷ [], e, (more, refl, subst (λ (p : ℕ × List Token). AreTokensOf lines p.0 p.1 (start + length bytes + 1) (line + 1) more) (λ i. (k i, e i)) h));
      refused = λ lines refusal n h. subst (λ (p : ℕ × List Token). IsRefusedIn lines p.0 p.1 (start + length bytes + 1) (line + 1) refusal) (λ i. (k i, e i)) h;
    }

-- ---- a text

with_first_count : (b : ℕ) (ls : List (List ℕ)) → length (with_byte_first b ls) ≡ max 1 (length ls)
with_first_count b [] = refl
with_first_count b (l ∷ ls) = omega arith

-- there are no more lines than bytes
pub lines_fit : (text : List ℕ) → length (lines_of text) ≤ length text
lines_fit [] = omega arith
lines_fit (b ∷ bs) =
    let ih = lines_fit bs in
    elim (cases_Bool (b == 10)) [
      | inl p ↦ rw p (omega (arith, ih))
      | inr p ↦ rw p (omega (arith, ih, with_first_count b (lines_of bs)))
    ]

pub text_more : (text rest bytes after : List ℕ) (start line due due' count : ℕ) (tokens new : List Token) → IsTextReadTo text rest start line due count tokens → lines_of rest ≡ bytes ∷ lines_of after → length bytes + length after ≤ length rest → IsLineRead bytes start line (count - line) due tokens new due' → IsTextReadTo text after (start + (length bytes + 1)) (line + 1) due' count new
text_more text rest bytes after start line due due' count tokens new r e n l =
    let one : length (lines_of rest) ≡ suc (length (lines_of after)) = ap length e in
    let left : length (lines_of after) ≡ count - line = omega (arith, one, r.counted) in
    let next : start + (length bytes + 1) ≡ start + length bytes + 1 = omega arith in
    record {
      counted = omega (arith, one, r.counted);
      place = omega (arith, n, r.place);
      within = omega (arith, left, l.within);
      found = λ more h.
          let s = l.found (lines_of after) more left (subst (λ (k : ℕ). AreTokensOf (lines_of after) due' new k (line + 1) more) next h) in
          let whole = r.found (s.0 ++ more) (subst (λ (ls : List (List ℕ)). AreTokensOf ls due tokens start line (s.0 ++ more)) (sym e) s.2) in
          subst (λ (ts : List Token). AreTokensOf (lines_of text) 0 [] 0 1 ts) (sym (append_assoc tokens s.0 more) ∙ ap (λ ts. ts ++ more) (sym s.1)) whole;
      refused = λ refusal h.
          let s = l.refused (lines_of after) refusal left (subst (λ (k : ℕ). IsRefusedIn (lines_of after) due' new k (line + 1) refusal) next h) in
          r.refused refusal (subst (λ (ls : List (List ℕ)). IsRefusedIn ls due tokens start line refusal) (sym e) s);
    }

pub text_all : (text rest : List ℕ) (start line due count : ℕ) (tokens : List Token) → IsTextReadTo text rest start line due count tokens → length rest ≡ 0 → AreTokensOf (lines_of text) 0 [] 0 1 tokens
text_all text [] start line zero count tokens r e = subst (λ (ts : List Token). AreTokensOf (lines_of text) 0 [] 0 1 ts) (append-nil tokens) (r.found [] refl)
text_all text [] start line (suc due) count tokens r e = absurd (omega (arith, r.within))
text_all text (b ∷ rest) start line due count tokens r e = absurd (omega arith)
