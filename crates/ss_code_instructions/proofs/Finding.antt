-- The code of FOR and of FIND, with their phrases.
use Rattle.std.proofs.Common.{◌≡◌, ℕ, ◌+◌, ◌-◌, Bool, true, false, List, [], ◌∷◌, ◌++◌, length, refl, subst, arith, length-append}
use Rattle.ss_code_instructions.proofs.Common.{choose, Code, find_code, for_code, forget_to, Frame, GoesOn, Head, height, in_loop, IsFound, Jump, outcome_then, over, Part, Phrase, phrases, phrases_code, place, Placed, RunState, Site, then_nothing, Turn, Value, WentOn}
use Rattle.ss_code_instructions.proofs.Steps.{HasAt, has_front, has_back, Comes, Reaches, here, at, arrive, join, follow}
use Rattle.ss_code_instructions.proofs.Parts.{Within, within_on, Lands, Runs, same, done}
use Rattle.ss_code_instructions.proofs.Branching.{jumps}
use Rattle.ss_code_instructions.proofs.Looping.{leads, past_loop, phrases_land}
use Rattle.ss_code_instructions.proofs.Heads.{forgets_one, for_long, for_forgets, ForRuns}

-- the turn of a FOR: its body, and on with the next
abbrev pub body_turn : Part (Unit {0}) → Part Turn
body_turn m w = outcome_then (m w) (λ _. WentOn GoesOn)

module _ (code : Code) (n : ℕ) where
  body_lands : (h found : ℕ) (c : List Placed) (m : Part (Unit {0})) → Runs code n h same c done m → Lands code n h same c (leads found) done (body_turn m)
  body_lands h found c m r = record {
    by = λ p cells frames w high has in_.
        join (at p cells frames w) (λ u w'. at (p + length c) cells frames w') (λ (b : Turn) w'. at (leads found b (p + length c)) cells frames w') frames (m w) (λ _. WentOn GoesOn)
        (r.by p cells frames w high has in_)
        (λ u w' k. here);
  }

  -- the jump to where the case was found
  found_lands : (u : Site) (found : ℕ) → Lands code n (height u) same (place u (Jump found) ∷ []) (leads found) done (WentOn IsFound)
  found_lands u found = record { by = λ p cells frames w high has in_. jumps code n u found p (p + 1 + found) cells frames w _ has.0 refl here }

module _ (code : Code) (n : ℕ) (t : Site) (head : Head) (fr : ForRuns code n t head) (ps : List Phrase) where
  abbrev u : Site
  u = in_loop t head

  -- ## FOR

  pub for_runs : (c : List Placed) (m : Part (Unit {0})) → Runs code n (height (in_loop t head)) same c done m → Runs code n (height t) same (for_code t head (phrases_code (in_loop t head) ps c)) done (λ w. then_nothing (over n t.line head (phrases t.line ps (body_turn m)) w))
  for_runs c m r = record {
    by = λ p cells frames w high has in_.
        let turn : List Placed = phrases_code u ps c in
        let part : Part Turn = phrases t.line ps (body_turn m) in
        let size : ℕ = length (for_code t head turn) in
        let end : ℕ = p + (size - 2) in
        let len : p + size ≡ end + 2 = omega (arith, for_long t head turn) in
        join (at p cells frames w) (λ b w'. at (past_loop 1 b end) cells frames w') (λ (o : Unit {0}) w'. at (p + size) cells frames w') frames (over n t.line head part w) (λ _. WentOn tt)
        (fr turn part 1 (phrases_land code n u 1 ps (body_lands code n (height u) 1 c m r)) p end cells frames w high has len (for_forgets code.places t head turn p end has len) in_)
        (λ b w' k. ends (p + size) end cells frames w' len b);
  }
    where
      ends : (p end : ℕ) (cells : List Value) (frames : List Frame) (w : RunState) → p ≡ end + 2 → (b : Bool) → Reaches code (at (past_loop 1 b end) cells frames w) (Comes (at p cells frames w))
      ends p end cells frames w len true = let e : p ≡ end + 1 + 1 = omega (arith, len) in subst (λ q. Reaches code (at q cells frames w) (Comes (at p cells frames w))) e here
      ends p end cells frames w len false = subst (λ q. Reaches code (at q cells frames w) (Comes (at p cells frames w))) len here

  -- ## FIND

  module _ (ca cb : List Placed) (ma mb : Part (Unit {0})) (ra : Runs code n (height t) same ca done ma) (rb : Runs code n (height t) same cb done mb) where
    -- where the case was found
    abbrev side : List Placed
    side = forget_to t u ++ ca

    -- both sides, after the loop
    abbrev both_sides : List Placed
    both_sides = cb ++ (place t (Jump (length ca + 1)) ∷ side)

    sides : (p end all : ℕ) (cells : List Value) (frames : List Frame) (w : RunState) → p ≡ end + 2 → p + length cb + 2 + length ca ≡ all → HasAt code.places p both_sides → length cells ≡ height t → Within code n w → (b : Bool) → Reaches code (at (past_loop (length cb + 3) b end) cells frames w) (arrive (λ o w'. at all cells frames w') frames (choose b ma mb w))
    sides p end all cells frames w e len h high in_ true =
        let after : List Placed = place t (Jump (length ca + 1)) ∷ side in
        let h2 = has_back code.places (p + length cb + 1) (forget_to t u) ca (has_back code.places p cb after h).1 in
        let q : p + length cb + 1 + length (forget_to t u) ≡ end + (length cb + 3) + 1 = omega (arith, e, forgets_one t head) in
        let last : p + length cb + 1 + length (forget_to t u) + length ca ≡ all = omega (arith, len, forgets_one t head) in
        subst (λ j. Reaches code (at j cells frames w) (arrive (λ o w'. at all cells frames w') frames (ma w))) q
        (subst (λ j. Reaches code (at (p + length cb + 1 + length (forget_to t u)) cells frames w) (arrive (λ o w'. at j cells frames w') frames (ma w))) last
        (ra.by (p + length cb + 1 + length (forget_to t u)) cells frames w high h2 in_))
    sides p end all cells frames w e len h high in_ false =
        let after : List Placed = place t (Jump (length ca + 1)) ∷ side in
        let last : p + length cb + 1 + (length ca + 1) ≡ all = omega (arith, len) in
        subst (λ j. Reaches code (at j cells frames w) (arrive (λ o w'. at all cells frames w') frames (mb w))) e
        (follow (at p cells frames w) (λ o w'. at (p + length cb) cells frames w') (λ o w'. at all cells frames w') frames (mb w)
        (rb.by p cells frames w high (has_front code.places p cb after h) in_)
        (λ o w' k. jumps code n t (length ca + 1) (p + length cb) all cells frames w' _ (has_back code.places p cb after h).0 last here))

    pub find_runs : Runs code n (height t) same (find_code t head ps ca cb) done (λ w. outcome_then (over n t.line head (phrases t.line ps (WentOn IsFound)) w) (λ b. choose b ma mb))
    find_runs = record {
      by = λ p cells frames w high has in_.
          let found : ℕ = length cb + 3 in
          let turn : List Placed = phrases_code u ps (place u (Jump found) ∷ []) in
          let part : Part Turn = phrases t.line ps (WentOn IsFound) in
          let front : List Placed = for_code t head turn in
          let size : ℕ = length front in
          let end : ℕ = p + (size - 2) in
          let all : ℕ = p + length (front ++ both_sides) in
          let len : p + size ≡ end + 2 = omega (arith, for_long t head turn) in
          let long : p + size + length cb + 2 + length ca ≡ all = omega (arith, length-append front both_sides, length-append cb (place t (Jump (length ca + 1)) ∷ side), length-append (forget_to t u) ca, forgets_one t head) in
          let h = has_back code.places p front both_sides has in
          let there : p + size + length cb + 1 ≡ end + found = omega (arith, len) in
          let found_has = subst (λ j. HasAt code.places j (forget_to t u)) there (has_front code.places (p + size + length cb + 1) (forget_to t u) ca (has_back code.places (p + size) cb (place t (Jump (length ca + 1)) ∷ side) h).1) in
          join (at p cells frames w) (λ b w'. at (past_loop found b end) cells frames w') (λ (o : Unit {0}) w'. at all cells frames w') frames (over n t.line head part w) (λ b. choose b ma mb)
          (fr turn part found (phrases_land code n u found ps (found_lands code n u found)) p end cells frames w high (has_front code.places p front both_sides has) len found_has in_)
          (λ b w' k. sides (p + size) end all cells frames w' len long h high (within_on in_ k) b);
    }
