-- The code of a FOR by its head: how it ends; and that it does what the FOR does, whatever its turns.
use Rattle.std.proofs.Common.{◌≡◌, ℕ, suc, ◌+◌, ◌-◌, ◌≤◌, Bool, List, ◌∷◌, ◌++◌, length, Option, refl, sym, ap, ◌∙◌, subst, arith, length-append, append_assoc}
use Rattle.ss_code_instructions.proofs.Common.{begin_code, Code, Each, Expression, for_code, forget, forget_to, Frame, Head, height, in_loop, Members, number_loop, Numbers, over, owner_cell, owner_code, owner_kept, Part, place, Placed, range_code, RunState, SetOwner, Site, Start, start_code, TheSystem, Turn, turns_code, Value, Variable, walk_loop}
use Rattle.ss_code_instructions.specs.Instructions as i
use Rattle.ss_code_instructions.proofs.Steps.{HasAt, has_back, Reaches, at, arrive}
use Rattle.ss_code_instructions.proofs.Parts.{Within, Lands, same, done}
use Rattle.ss_code_instructions.proofs.Forgetting.{two_more, three_more}
use Rattle.ss_code_instructions.proofs.Looping.{leads, past_loop}
use Rattle.ss_code_instructions.proofs.Ranging.{each_run, numbers_run}
use Rattle.ss_code_instructions.proofs.Walking.{members_run}

-- ## How the code of a FOR ends: with one instruction, which forgets what the FOR keeps

one_forget : (t u : Site) (k : ℕ) → height u - height t ≡ suc k → length (forget_to t u) ≡ 1
one_forget t u k e = ap (λ j. length (forget u j)) e

pub forgets_one : (t : Site) (head : Head) → length (forget_to t (in_loop t head)) ≡ 1
forgets_one t (Members x set TheSystem start reverse) = one_forget t (in_loop t (Members x set TheSystem start reverse)) 1 (two_more (height t))
forgets_one t head = one_forget t (in_loop t head) 2 (three_more (height t))

record Closing (t : Site) (head : Head) (turn : List Placed) : Type 0 where
  pub front : List Placed
  pub is : for_code t head turn ≡ front ++ forget_to t (in_loop t head)
  pub some : 1 ≤ length front

closing : (t : Site) (head : Head) (turn : List Placed) → Closing t head turn
closing t (Numbers x a b c) turn =
    let turns : List Placed = turns_code (number_loop t) (height t) x turn (i.Next (height t)) in
    let range : List Placed = range_code t a b c in
    let rest : List Placed = place (number_loop t) (i.Begin (height t) (length turns)) ∷ turns in
    let long : 1 ≤ length (range ++ rest) = omega (arith, length-append range rest) in
    record { front = range ++ rest; is = sym (append_assoc range rest (forget_to t (in_loop t (Numbers x a b c)))); some = long }
closing t (Each x class) turn =
    let turns : List Placed = turns_code (number_loop t) (height t) x turn (i.Next (height t)) in
    let rest : List Placed = place t (i.BeginClass class (height t) (length turns)) ∷ turns in
    let long : 1 ≤ length rest = omega arith in
    record { front = rest; is = refl; some = long }
closing t (Members x set o start reverse) turn =
    let u : Site = owner_cell t o in
    let turns : List Placed = turns_code (walk_loop t o) (height u) x turn (i.NextMember reverse set (owner_kept t o) (height u)) in
    let own : List Placed = owner_code t o in
    let first : List Placed = start_code u set (owner_kept t o) start in
    let rest : List Placed = begin_code u reverse set (owner_kept t o) start (length turns) ∷ turns in
    let last : List Placed = forget_to t (in_loop t (Members x set o start reverse)) in
    let long : 1 ≤ length (own ++ (first ++ rest)) = omega (arith, length-append own (first ++ rest), length-append first rest) in
    record {
      front = own ++ (first ++ rest);
      is = sym (append_assoc own (first ++ rest) last ∙ ap (λ k. own ++ k) (append_assoc first rest last));
      some = long;
    }

closing_long : (t : Site) (head : Head) (turn : List Placed) → (c : Closing t head turn) → length (for_code t head turn) ≡ length c.front + 1
closing_long t head turn c =
    ap length c.is ∙ (length-append c.front (forget_to t (in_loop t head)) ∙ ap (λ j. length c.front + j) (forgets_one t head))

pub for_long : (t : Site) (head : Head) (turn : List Placed) → 2 ≤ length (for_code t head turn)
for_long t head turn = let c = closing t head turn in omega (arith, closing_long t head turn c, c.some)

pub for_forgets : (all : List Placed) (t : Site) (head : Head) (turn : List Placed) (p end : ℕ) → HasAt all p (for_code t head turn) → p + length (for_code t head turn) ≡ end + 2 → HasAt all (end + 1) (forget_to t (in_loop t head))
for_forgets all t head turn p end has len =
    let c = closing t head turn in
    let last : List Placed = forget_to t (in_loop t head) in
    let here_ : p + length c.front ≡ end + 1 = omega (arith, len, closing_long t head turn c) in
    subst (λ j. HasAt all j last) here_ (has_back all p c.front last (subst (HasAt all p) c.is has))

-- ## Its turns

module _ (code : Code) (n : ℕ) (t : Site) where
  -- the code of a FOR with this head does what the FOR does, whatever its turns
  abbrev pub ForRuns : Head → Type 0
  ForRuns head =
      (turn : List Placed) (m : Part Turn) (found : ℕ) → Lands code n (height (in_loop t head)) same turn (leads found) done m →
      (p end : ℕ) (cells : List Value) (frames : List Frame) (w : RunState) → length cells ≡ height t → HasAt code.places p (for_code t head turn) →
      p + length (for_code t head turn) ≡ end + 2 → HasAt code.places (end + found) (forget_to t (in_loop t head)) → Within code n w →
      Reaches code (at p cells frames w) (arrive (λ b w'. at (past_loop found b end) cells frames w') frames (over n t.line head m w))

  numbers_for : (x : Variable) (a b : Expression) (c : Option Expression) → ForRuns (Numbers x a b c)
  numbers_for x a b c turn m found r p end cells frames w high has len found_has in_ =
      numbers_run code n t x turn m found r (forgets_one t (Numbers x a b c)) a b c p end cells frames w high has len found_has in_

  each_for : (x : Variable) (class : ℕ) → ForRuns (Each x class)
  each_for x class turn m found r p end cells frames w high has len found_has in_ =
      each_run code n t x turn m found r (forgets_one t (Each x class)) class p end cells frames w high has len found_has in_

  members_for : (x : Variable) (set : ℕ) (o : SetOwner) (start : Start) (reverse : Bool) → ForRuns (Members x set o start reverse)
  members_for x set o start reverse turn m found r p end cells frames w high has len found_has in_ =
      members_run code n t x turn m found set o reverse r (forgets_one t (Members x set o start reverse)) start p end cells frames w high has len found_has in_

  -- so it is whatever the head
  pub head_for : (head : Head) → ForRuns head
  head_for (Numbers x a b c) = numbers_for x a b c
  head_for (Each x class) = each_for x class
  head_for (Members x set o start reverse) = members_for x set o start reverse
