-- The tokens of lines: there is one list of them, or one refusal.
use Rattle.std.proofs.Common.{◌≡◌, ℕ, zero, suc, ◌+◌, ◌≤◌, Bool, true, false, ◌||◌, List, [], ◌∷◌, ◌++◌, length, nat_lt, Option, Some, None, MatchOption, refl, sym, ap, subst, ◌∙◌, arith, inl, inr, ◌⊎◌}
use Rattle.ss_lex.proofs.Common.{AreTokensOf, called_by, cond_both, cut_of, fault_in, first_fault, has_trigger, IsCutInto, IsRefusedIn, LexError, line_refusal, LinePiece, means_trigger, nat_tests, option_or, picture_at, piece_meaning, pieces, refusal_for, to_trigger, Token, tokens_of}
use Rattle.ss_lex.specs.declared.meaning.Fault.{Fault}
use Rattle.ss_lex.proofs.Cutting.{pieces_sound, pieces_complete}

-- ---- what is wrong first with a line

or_none : {A : Type 0} (a b : Option A) → option_or a b ≡ None → (a ≡ None) × (b ≡ None)
or_none None b e = (refl, e)
or_none (Some x) b e = absurd cc

fault_none : (fault : Option Fault) (line : ℕ) → refusal_for fault line ≡ None → fault ≡ None
fault_none None line e = refl
fault_none (Some fault) line e = absurd cc

-- the line is read: it has no fault, and enough lines are left
pub line_sound : (ps : List LinePiece) (before : List Token) (start line left : ℕ) → line_refusal ps before start line left ≡ None → (first_fault ps ≡ None) × (called_by before (tokens_of ps start line) ≤ left)
line_sound ps before start line left e =
    let a = or_none (refusal_for (first_fault (to_trigger ps)) line) _ e in
    let b = or_none (cut_of left (called_by before (tokens_of ps start line)) line) _ a.1 in
    (fault_none (first_fault ps) line b.1, enough (nat_lt left (called_by before (tokens_of ps start line))) refl b.0)
  where
    enough : (t : Bool) → nat_lt left (called_by before (tokens_of ps start line)) ≡ t → cut_of left (called_by before (tokens_of ps start line)) line ≡ None → called_by before (tokens_of ps start line) ≤ left
    enough true t n = let wrong = rw t at n in absurd cc
    enough false t n = grind (arith, nat_tests)

none_to_trigger : (ps : List LinePiece) → first_fault ps ≡ None → first_fault (to_trigger ps) ≡ None
none_to_trigger [] e = refl
none_to_trigger (p ∷ ps) e =
    let two = or_none (fault_in (piece_meaning p)) (first_fault ps) e in
    let ih = none_to_trigger ps two.1 in
    cond_both (means_trigger (piece_meaning p) || has_trigger ps) (p ∷ to_trigger ps) [] (λ qs. first_fault qs ≡ None) (λ _. λ i. option_or (two.0 i) (ih i)) (λ _. refl)

line_none : (ps : List LinePiece) (before : List Token) (start line left : ℕ) → first_fault ps ≡ None → called_by before (tokens_of ps start line) ≤ left → line_refusal ps before start line left ≡ None
line_none ps before start line left f le =
    let t : nat_lt left (called_by before (tokens_of ps start line)) ≡ false = grind (arith, nat_tests) in
    rw (none_to_trigger ps f, t, f) refl

-- ---- no other tokens

same_pieces : (ps qs : List LinePiece) (l : List ℕ) → IsCutInto ps l → IsCutInto qs l → ps ≡ qs
same_pieces ps qs l c d = sym (pieces_complete ps l c) ∙ pieces_complete qs l d

pub one_list_of : (ls : List (List ℕ)) (due : ℕ) (before : List Token) (start line : ℕ) (a b : List Token) → AreTokensOf ls due before start line a → AreTokensOf ls due before start line b → a ≡ b
one_list_of [] zero before start line a b s t = s ∙ sym t
one_list_of [] (suc due) before start line a b s t = absurd s
one_list_of (l ∷ ls) (suc due) before start line a b (rest, e, s) (rest', e', s') =
    let ih = one_list_of ls due (before ++ picture_at l start line ∷ []) (start + length l + 1) (line + 1) rest rest' s s' in
    e ∙ (ap (λ r. picture_at l start line ∷ r) ih ∙ sym e')
one_list_of (l ∷ ls) zero before start line a b (ps, rest, c, f, e, s) (qs, rest', c', f', e', s') =
    let same = same_pieces qs ps l c' c in
    let s'' = subst (λ (x : List LinePiece). AreTokensOf ls (called_by before (tokens_of x start line)) (before ++ tokens_of x start line) (start + length l + 1) (line + 1) rest') same s' in
    let ih = one_list_of ls (called_by before (tokens_of ps start line)) (before ++ tokens_of ps start line) (start + length l + 1) (line + 1) rest rest' s s'' in
    e ∙ ((λ i. tokens_of (sym same i) start line ++ ih i) ∙ sym e')

-- ---- a refused text has no tokens

enough_lines : (ls : List (List ℕ)) (due : ℕ) (before : List Token) (start line : ℕ) (ts : List Token) → AreTokensOf ls due before start line ts → due ≤ length ls
enough_lines [] zero before start line ts s = omega arith
enough_lines [] (suc due) before start line ts s = absurd s
enough_lines (l ∷ ls) (suc due) before start line ts (rest, e, s) = omega (arith, enough_lines ls due (before ++ picture_at l start line ∷ []) (start + length l + 1) (line + 1) rest s)
enough_lines (l ∷ ls) zero before start line ts s = omega arith

pub none_refused_of : (ls : List (List ℕ)) (due : ℕ) (before : List Token) (start line : ℕ) (ts : List Token) (refusal : LexError) → AreTokensOf ls due before start line ts → IsRefusedIn ls due before start line refusal → ⊥
none_refused_of [] due before start line ts refusal s r = absurd r
none_refused_of (l ∷ ls) (suc due) before start line ts refusal (rest, e, s) r = none_refused_of ls due (before ++ picture_at l start line ∷ []) (start + length l + 1) (line + 1) rest refusal s r
none_refused_of (l ∷ ls) zero before start line ts refusal (ps, rest, c, f, e, s) (qs, c', r) =
    let same = same_pieces qs ps l c' c in
    let enough = enough_lines ls (called_by before (tokens_of ps start line)) (before ++ tokens_of ps start line) (start + length l + 1) (line + 1) rest s in
    let none = ap (λ (x : List LinePiece). line_refusal x before start line (length ls)) same ∙ line_none ps before start line (length ls) f enough in
    let r' = subst (λ (o : Option LexError). MatchOption o (IsRefusedIn ls (called_by before (tokens_of qs start line)) (before ++ tokens_of qs start line) (start + length l + 1) (line + 1) refusal) (λ first. refusal ≡ first)) none r in
    let r'' = subst (λ (x : List LinePiece). IsRefusedIn ls (called_by before (tokens_of x start line)) (before ++ tokens_of x start line) (start + length l + 1) (line + 1) refusal) same r' in
    none_refused_of ls (called_by before (tokens_of ps start line)) (before ++ tokens_of ps start line) (start + length l + 1) (line + 1) rest refusal s r''

-- ---- no other refusal

pub one_refusal_of : (ls : List (List ℕ)) (due : ℕ) (before : List Token) (start line : ℕ) (e f : LexError) → IsRefusedIn ls due before start line e → IsRefusedIn ls due before start line f → e ≡ f
one_refusal_of [] due before start line e f r s = absurd r
one_refusal_of (l ∷ ls) (suc due) before start line e f r s = one_refusal_of ls due (before ++ picture_at l start line ∷ []) (start + length l + 1) (line + 1) e f r s
one_refusal_of (l ∷ ls) zero before start line e f (ps, c, r) (qs, c', s) =
    let same = same_pieces qs ps l c' c in
    let s' = subst (λ (x : List LinePiece). Goes x f) same s in
    go (line_refusal ps before start line (length ls)) r s'
    (one_refusal_of ls (called_by before (tokens_of ps start line)) (before ++ tokens_of ps start line) (start + length l + 1) (line + 1) e f)
  where
    Goes : List LinePiece → LexError → Type 0
    Goes x refusal = MatchOption (line_refusal x before start line (length ls)) (IsRefusedIn ls (called_by before (tokens_of x start line)) (before ++ tokens_of x start line) (start + length l + 1) (line + 1) refusal) (λ first. refusal ≡ first)

    go : (o : Option LexError) → MatchOption o (IsRefusedIn ls (called_by before (tokens_of ps start line)) (before ++ tokens_of ps start line) (start + length l + 1) (line + 1) e) (λ first. e ≡ first)
        → MatchOption o (IsRefusedIn ls (called_by before (tokens_of ps start line)) (before ++ tokens_of ps start line) (start + length l + 1) (line + 1) f) (λ first. f ≡ first)
        → (IsRefusedIn ls (called_by before (tokens_of ps start line)) (before ++ tokens_of ps start line) (start + length l + 1) (line + 1) e → IsRefusedIn ls (called_by before (tokens_of ps start line)) (before ++ tokens_of ps start line) (start + length l + 1) (line + 1) f → e ≡ f) → e ≡ f
    go None r s ih = ih r s
    go (Some first) r s ih = r ∙ sym s

-- ---- some tokens, or some refusal

-- what lines are read as
abbrev pub Answered : List (List ℕ) → ℕ → List Token → ℕ → ℕ → Type 0
Answered ls due before start line = ((ts : List Token) × AreTokensOf ls due before start line ts) ⊎ ((e : LexError) × IsRefusedIn ls due before start line e)

pub answered : (ls : List (List ℕ)) (due : ℕ) (before : List Token) (start line : ℕ) → due ≤ length ls → Answered ls due before start line
answered [] zero before start line le = inl ([], refl)
answered [] (suc due) before start line le = absurd (omega arith)
answered (l ∷ ls) (suc due) before start line le =
    elim (answered ls due (before ++ picture_at l start line ∷ []) (start + length l + 1) (line + 1) (omega arith)) [
      | inl s ↦ inl (picture_at l start line ∷ s.0, (s.0, refl, s.1))
      | inr r ↦ inr (r.0, r.1)
    ]
answered (l ∷ ls) zero before start line le =
    go (line_refusal (pieces l) before start line (length ls)) refl
    (answered ls (called_by before (tokens_of (pieces l) start line)) (before ++ tokens_of (pieces l) start line) (start + length l + 1) (line + 1))
  where
    go : (o : Option LexError) → line_refusal (pieces l) before start line (length ls) ≡ o
        → (called_by before (tokens_of (pieces l) start line) ≤ length ls → Answered ls (called_by before (tokens_of (pieces l) start line)) (before ++ tokens_of (pieces l) start line) (start + length l + 1) (line + 1))
        → Answered (l ∷ ls) zero before start line
    go None e ih =
        let sound = line_sound (pieces l) before start line (length ls) e in
        elim (ih sound.1) [
          | inl s ↦ inl (tokens_of (pieces l) start line ++ s.0, (pieces l, s.0, pieces_sound l, sound.0, refl, s.1))
          | inr r ↦ inr (r.0, (pieces l, pieces_sound l, rw e r.1))
        ]
    go (Some first) e ih = inr (first, (pieces l, pieces_sound l, rw e refl))
