-- Reading a line of code, from piece to piece.
use Rattle.std.proofs.Common.{◌≡◌, ℕ, ◌+◌, ◌-◌, ◌<◌, ◌≤◌, Bool, true, false, ◌||◌, ◌==◌, List, [], ◌∷◌, ◌++◌, length, nat_lt, Some, None, append_assoc, refl, sym, ap, ◌∙◌, arith, inl, inr}
use Rattle.ss_lex.proofs.Common.{append-nil, called_by, cases_Bool, cut_of, fault_in, first_fault, has_kind, has_trigger, is_trigger, line_refusal, LinePiece, means_trigger, nat_tests, option_or, or_parts, piece_meaning, refusal_for, spelled, to_trigger, Token, token_in, tokens_of}
use Rattle.std.specs.Prelude.{if◌then◌else◌}
use Rattle.std.proofs.Math.Bool.{or-false}
use Rattle.std.proofs.lemmas.List.Folds.{list_any-append}
use Rattle.ss_lex.specs.declared.meaning.PieceMeaning.{PieceMeaning}
use Rattle.ss_lex.specs.declared.meaning.PieceMeaning.TheVariants as meanings
use Rattle.ss_lex.specs.declared.meaning.Fault.{Fault}
use Rattle.ss_lex.specs.declared.error.LexError.TheVariants as errors
use Rattle.ss_lex.specs.Reading.{piece_at, pieces, step_of, trigger_step_of, due_from, refusal_from, fault_refusal, IsCodeLineRead, IsReadUpTo}
use Rattle.ss_lex.proofs.Cutting.{cut_complete, pieces_sound, piece_place}

-- ---- the piece at the front

pieces_more : (b : ℕ) (bs : List ℕ) → pieces (b ∷ bs) ≡ (piece_at b bs).0 ∷ pieces (piece_at b bs).1
unfolding pieces
pieces_more b bs =
    let place = piece_place b bs in
    ap (λ ps. (piece_at b bs).0 ∷ ps) (cut_complete (pieces (piece_at b bs).1) (length bs) (piece_at b bs).1 (omega (arith, place.0, place.1)) (pieces_sound (piece_at b bs).1))

-- a step of the code: what the first piece means, and what follows it
pub record Stepped (rest : List ℕ) (m : PieceMeaning) (after : List ℕ) : Type 0 where
  pub piece : LinePiece
  pub means : piece_meaning piece ≡ m
  pub all : pieces rest ≡ piece ∷ pieces after
  pub place : length (spelled piece) + length after ≡ length rest
  pub less : length after < length rest

pub stepped : (rest : List ℕ) (m : PieceMeaning) (after : List ℕ) → false ≡ (length rest == 0) → (m, after) ≡ step_of rest → Stepped rest m after
unfolding step_of
stepped [] m after some e = absurd cc
stepped (b ∷ bs) m after some e =
    let place = piece_place b bs in
    let after_is : after ≡ (piece_at b bs).1 = ap (λ (p : PieceMeaning × List ℕ). p.1) e in
    record {
      piece = (piece_at b bs).0;
      means = sym (ap (λ (p : PieceMeaning × List ℕ). p.0) e);
      all = pieces_more b bs ∙ ap (λ l. (piece_at b bs).0 ∷ pieces l) (sym after_is);
      place = ap (λ l. length (spelled (piece_at b bs).0) + length l) after_is ∙ place.1;
      less = omega (arith, ap length after_is, place.0, place.1);
    }

-- ---- trigger words

pub none_left : (rest : List ℕ) → length rest ≡ 0 → pieces rest ≡ []
unfolding pieces
none_left [] e = refl
none_left (b ∷ bs) e = absurd (omega arith)

-- whether the piece at the front is a trigger word, and what follows it
pub trigger_step : (rest after : List ℕ) (t : Bool) → false ≡ (length rest == 0) → (t, after) ≡ trigger_step_of rest → Stepped rest (step_of rest).0 after × (t ≡ means_trigger (step_of rest).0)
trigger_step rest after t some e =
    let after_is : after ≡ (step_of rest).1 = ap (λ (p : Bool × List ℕ). p.1) e in
    (stepped rest (step_of rest).0 after some (ap (λ l. ((step_of rest).0, l)) after_is), ap (λ (p : Bool × List ℕ). p.0) e)

pub trigger_next : (rest : List ℕ) (m : PieceMeaning) (after : List ℕ) {t : Bool} → Stepped rest m after → means_trigger m ≡ t → has_trigger (pieces rest) ≡ (t || has_trigger (pieces after))
trigger_next rest m after s e = ap has_trigger s.all ∙ ap (λ b. b || has_trigger (pieces after)) (ap means_trigger s.means ∙ e)

trigger_in : (m : PieceMeaning) (start line : ℕ) → has_kind is_trigger (token_in m start line) ≡ means_trigger m
trigger_in (meanings.Token kind spelling) start line = or-false (is_trigger kind)
trigger_in _ start line = refl

triggers_of : (ps : List LinePiece) (start line : ℕ) → has_kind is_trigger (tokens_of ps start line) ≡ has_trigger ps
triggers_of [] start line = refl
triggers_of (p ∷ ps) start line =
    list_any-append (λ (t : Token). is_trigger t.kind) (token_in (piece_meaning p) start line) (tokens_of ps (start + length (spelled p)) line)
    ∙ (λ i. trigger_in (piece_meaning p) start line i || triggers_of ps (start + length (spelled p)) line i)

-- ---- how many pictures are called for

none_called : (before ts : List Token) → has_kind is_trigger ts ≡ false → called_by before ts ≡ 0
none_called before [] e = refl
none_called before (t ∷ ts) e =
    let two = or_parts (is_trigger t.kind) (has_kind is_trigger ts) e in
    rw (two.1, two.0) refl

from_none : (before ts : List Token) → due_from 0 before ts ≡ called_by before ts
from_none before ts =
    elim (cases_Bool (has_kind is_trigger ts)) [
      | inl p ↦ rw p refl
      | inr p ↦ rw p (sym (none_called before ts p))
    ]

due_more : (due : ℕ) (before : List Token) (t : Token) (ts : List Token) → due_from due before (t ∷ ts) ≡ due_from (due_from due before (t ∷ [])) (before ++ t ∷ []) ts
due_more due before t ts =
    elim (cases_Bool (has_kind is_trigger ts)) [
      | inl q ↦ elim (cases_Bool (is_trigger t.kind)) [
        | inl p ↦ rw (p, q) refl
        | inr p ↦ rw (p, q) refl
      ]
      | inr q ↦ elim (cases_Bool (is_trigger t.kind)) [
        | inl p ↦ rw (p, q) refl
        | inr p ↦ rw (p, q) refl
      ]
    ]

due_step : (due : ℕ) (before : List Token) (m : PieceMeaning) (start line : ℕ) (ts : List Token) → due_from due before (token_in m start line ++ ts) ≡ due_from (due_from due before (token_in m start line)) (before ++ token_in m start line) ts
due_step due before (meanings.Token kind spelling) start line ts = due_more due before (record { kind = kind; span = record { start = start; length = spelling }; line = record { 0 = line } }) ts
due_step due before _ start line ts = ap (λ l. due_from due l ts) (sym (append-nil before))

-- ---- what is wrong first

no_trigger : (ps : List LinePiece) → has_trigger ps ≡ false → to_trigger ps ≡ []
no_trigger [] e = refl
no_trigger (p ∷ ps) e = rw e refl

fault_to_trigger : (p : LinePiece) (ps : List LinePiece) → fault_in (piece_meaning p) ≡ None → first_fault (to_trigger (p ∷ ps)) ≡ first_fault (to_trigger ps)
fault_to_trigger p ps e =
    elim (cases_Bool (means_trigger (piece_meaning p) || has_trigger ps)) [
      | inl t ↦ ap (λ (b : Bool). first_fault (if b then p ∷ to_trigger ps else [])) t ∙ ap (λ o. option_or o (first_fault (to_trigger ps))) e
      | inr t ↦ ap (λ (b : Bool). first_fault (if b then p ∷ to_trigger ps else [])) t ∙ ap first_fault (sym (no_trigger ps (or_parts (means_trigger (piece_meaning p)) (has_trigger ps) t).1))
    ]

refusal_step : (due : ℕ) (before : List Token) (p : LinePiece) (ps : List LinePiece) (at line left : ℕ) → fault_in (piece_meaning p) ≡ None → refusal_from due before (p ∷ ps) at line left ≡ refusal_from (due_from due before (token_in (piece_meaning p) at line)) (before ++ token_in (piece_meaning p) at line) ps (at + length (spelled p)) line left
unfolding refusal_from
refusal_step due before p ps at line left e =
    λ i. option_or (refusal_for (fault_to_trigger p ps e i) line)
    (option_or (cut_of left (due_step due before (piece_meaning p) at line (tokens_of ps (at + length (spelled p)) line) i) line)
    (refusal_for (option_or (e i) (first_fault ps)) line))

-- ---- a line of code

pub read_none : (bytes : List ℕ) (start line left : ℕ) (old : List Token) → IsReadUpTo bytes start line left old old bytes start 0
unfolding refusal_from
read_none bytes start line left old = record {
  place = refl;
  listed = refl;
  called = from_none old (tokens_of (pieces bytes) start line);
  first = ap (λ n. option_or (refusal_for (first_fault (to_trigger (pieces bytes))) line) (option_or (cut_of left n line) (refusal_for (first_fault (pieces bytes)) line))) (from_none old (tokens_of (pieces bytes) start line));
}

pub read_more : (bytes : List ℕ) (start line left : ℕ) (old tokens new : List Token) (rest after : List ℕ) (at due due' : ℕ) (m : PieceMeaning) → IsReadUpTo bytes start line left old tokens rest at due → Stepped rest m after → fault_in m ≡ None → new ≡ tokens ++ token_in m at line → due' ≡ due_from due tokens (token_in m at line) → IsReadUpTo bytes start line left old new after (at + (length rest - length after)) due'
read_more bytes start line left old tokens new rest after at due due' m r s f n d =
    let p = s.piece in
    let here : token_in m at line ≡ token_in (piece_meaning p) at line = ap (λ x. token_in x at line) (sym s.means) in
    let new_is : new ≡ tokens ++ token_in (piece_meaning p) at line = n ∙ ap (λ l. tokens ++ l) here in
    let due_is : due' ≡ due_from due tokens (token_in (piece_meaning p) at line) = d ∙ ap (due_from due tokens) here in
    let at_is : at + (length rest - length after) ≡ at + length (spelled p) = omega (arith, s.place) in
    let ts = tokens_of (pieces after) (at + length (spelled p)) line in
    let split : tokens_of (pieces rest) at line ≡ token_in (piece_meaning p) at line ++ ts = ap (λ ps. tokens_of ps at line) s.all in
    record {
      place = omega (arith, s.place, s.less, r.place);
      listed = (λ i. new_is i ++ tokens_of (pieces after) (at_is i) line) ∙ (append_assoc tokens (token_in (piece_meaning p) at line) ts ∙ (ap (λ l. tokens ++ l) (sym split) ∙ r.listed));
      called = (λ i. due_from (due_is i) (new_is i) (tokens_of (pieces after) (at_is i) line)) ∙ (sym (due_step due tokens (piece_meaning p) at line ts) ∙ (ap (due_from due tokens) (sym split) ∙ r.called));
      first = (λ i. refusal_from (due_is i) (new_is i) (pieces after) (at_is i) line left) ∙ (sym (refusal_step due tokens p (pieces after) at line left (ap fault_in s.means ∙ f)) ∙ (ap (λ ps. refusal_from due tokens ps at line left) (sym s.all) ∙ r.first));
    }

fault_at : (m : PieceMeaning) (f : Fault) → fault_in m ≡ Some f → m ≡ meanings.Fault f
fault_at (meanings.Fault g) f e = cc
fault_at _ f e = absurd cc

pub read_fault : (bytes : List ℕ) (start line left : ℕ) (old tokens : List Token) (rest after : List ℕ) (at due : ℕ) (m : PieceMeaning) (fault : Fault) → IsReadUpTo bytes start line left old tokens rest at due → Stepped rest m after → fault_in m ≡ Some fault → line_refusal (pieces bytes) old start line left ≡ Some (fault_refusal fault after due left line)
unfolding refusal_from
read_fault bytes start line left old tokens rest after at due m fault r s f =
    let p = s.piece in
    let ps = pieces after in
    let is : piece_meaning p ≡ meanings.Fault fault = s.means ∙ fault_at m fault f in
    sym r.first ∙ (ap (λ l. refusal_from due tokens l at line left) s.all ∙ elim (cases_Bool (has_trigger ps)) [
      | inl q ↦ rw (is, q, is) refl
      | inr q ↦
          let none : has_kind is_trigger (tokens_of ps (at + length (spelled p)) line) ≡ false = triggers_of ps (at + length (spelled p)) line ∙ q in
          elim (cases_Bool (nat_lt left due)) [
            | inl c ↦ rw (is, q, none, c) refl
            | inr c ↦ rw (is, q, none, c) refl
          ]
    ])

pub read_cut : (bytes : List ℕ) (start line left : ℕ) (old tokens : List Token) (rest : List ℕ) (at due : ℕ) → IsReadUpTo bytes start line left old tokens rest at due → length rest ≡ 0 → left < due → line_refusal (pieces bytes) old start line left ≡ Some (errors.PictureCut (record { 0 = line }))
unfolding refusal_from
read_cut bytes start line left old tokens rest at due r e lt =
    let c : nat_lt left due ≡ true = grind (arith, nat_tests) in
    sym r.first ∙ (ap (λ l. refusal_from due tokens l at line left) (none_left rest e) ∙ rw c refl)

pub read_all : (bytes : List ℕ) (start line left : ℕ) (old tokens : List Token) (rest : List ℕ) (at due : ℕ) → IsReadUpTo bytes start line left old tokens rest at due → length rest ≡ 0 → due ≤ left → IsCodeLineRead bytes start line left old tokens due
unfolding refusal_from
read_all bytes start line left old tokens rest at due r e le =
    let c : nat_lt left due ≡ false = grind (arith, nat_tests) in
    let none = none_left rest e in
    record {
      sound = sym r.first ∙ (ap (λ l. refusal_from due tokens l at line left) none ∙ rw c refl);
      tokens = sym (append-nil tokens) ∙ (ap (λ l. tokens ++ tokens_of l at line) (sym none) ∙ r.listed);
      called = ap (λ l. due_from due tokens (tokens_of l at line)) (sym none) ∙ r.called;
    }
