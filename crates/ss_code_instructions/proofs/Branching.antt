-- Code that goes on where something holds, and jumps where it does not.
use Rattle.std.proofs.Common.{◌≡◌, ℕ, ◌+◌, Bool, true, false, not, List, [], ◌∷◌, ◌++◌, length, Some, Ok, refl, subst, arith, length-append}
use Rattle.std.specs.Prelude.{slice_get, Result as OkOr}
use Rattle.ss_code_instructions.proofs.Common.{both, choose, Code, core_at, either, Failure, Frame, if_ok, Jump, Line, look, outcome_then, Part, past, Placed, RunState, Store, Value}
use Rattle.ss_code_instructions.specs.Translation.{height, Site, place as here_is}
use Rattle.ss_code_instructions.proofs.Steps.{HasAt, has_front, has_back, Goal, Comes, Reaches, here, at, arrive, join, follow}
use Rattle.ss_code_instructions.proofs.Parts.{Within, within_on, onwards, step_leads, Lands, Runs, same, done, alike, looks_then}

module _ (code : Code) (n : ℕ) (t : Site) where
  -- a jump
  pub jumps : (skip p end : ℕ) (cells : List Value) (frames : List Frame) (w : RunState) (r : Goal) → slice_get code.places p ≡ Some (here_is t (Jump skip)) → p + 1 + skip ≡ end → Reaches code (at end cells frames w) r → Reaches code (at p cells frames w) r
  jumps skip p end cells frames w r has e f =
      step_leads code (here_is t (Jump skip)) (core_at p cells frames w.store) w _ r has refl refl
      (onwards (subst (λ q. Reaches code (at q cells frames w) r) (let e' : end ≡ p + 1 + skip = omega (arith, e) in e') f))

  -- two conditions that both must hold
  pub both_lands : {c1 c2 : List Placed} (l : Line) (skip : ℕ) (f g : Store → OkOr Bool Failure) → Lands code n (height t) same c1 (past (length c2 + skip)) done (look l f) → Lands code n (height t) same c2 (past skip) done (look l g) → Lands code n (height t) same (c1 ++ c2) (past skip) done (look l (λ s. if_ok (f s) (λ b. both b (g s))))
  both_lands {c1 = c1} {c2 = c2} l skip f g r1 r2 = alike code n (height t) (λ w. looks_then l (f w.store) (λ b s. both b (g s)) w) (record {
    by = λ place cells frames w high has in_.
        let len : place + length c1 + length c2 ≡ place + length (c1 ++ c2) = omega (arith, length-append c1 c2) in
        join (at place cells frames w) (λ b w'. at (past (length c2 + skip) b (place + length c1)) cells frames w') (λ b w'. at (past skip b (place + length (c1 ++ c2))) cells frames w') frames (look l f w) (λ b. look l (λ s. both b (g s)))
        (r1.by place cells frames w high (has_front code.places place c1 c2 has) in_)
        (λ b w' k. sides (place + length c1) (place + length (c1 ++ c2)) cells frames w' (has_back code.places place c1 c2 has) len high (within_on in_ k) b);
  })
    where
      sides : (p end : ℕ) (cells : List Value) (frames : List Frame) (w : RunState) → HasAt code.places p c2 → p + length c2 ≡ end → length cells ≡ height t → Within code n w → (b : Bool) → Reaches code (at (past (length c2 + skip) b p) cells frames w) (arrive (λ b w'. at (past skip b end) cells frames w') frames (look l (λ s. both b (g s)) w))
      sides p end cells frames w h len high in_ true =
          subst (λ e. Reaches code (at p cells frames w) (arrive (λ b w'. at (past skip b e) cells frames w') frames (look l g w))) len (r2.by p cells frames w high h in_)
      sides p end cells frames w h len high in_ false =
          let e : end + skip ≡ p + (length c2 + skip) = omega (arith, len) in
          subst (λ q. Reaches code (at q cells frames w) (Comes (at (end + skip) cells frames w))) e here

  -- two conditions of which one must hold
  pub either_lands : {c1 c2 : List Placed} (l : Line) (skip : ℕ) (f g : Store → OkOr Bool Failure) → Lands code n (height t) same c1 (past 1) done (look l f) → Lands code n (height t) same c2 (past skip) done (look l g) → Lands code n (height t) same (c1 ++ (here_is t (Jump (length c2)) ∷ c2)) (past skip) done (look l (λ s. if_ok (f s) (λ b. either b (g s))))
  either_lands {c1 = c1} {c2 = c2} l skip f g r1 r2 = alike code n (height t) (λ w. looks_then l (f w.store) (λ b s. either b (g s)) w) (record {
    by = λ place cells frames w high has in_.
        let rest = here_is t (Jump (length c2)) ∷ c2 in
        let len : place + length c1 + 1 + length c2 ≡ place + length (c1 ++ rest) = omega (arith, length-append c1 rest) in
        join (at place cells frames w) (λ b w'. at (past 1 b (place + length c1)) cells frames w') (λ b w'. at (past skip b (place + length (c1 ++ rest))) cells frames w') frames (look l f w) (λ b. look l (λ s. either b (g s)))
        (r1.by place cells frames w high (has_front code.places place c1 rest has) in_)
        (λ b w' k. sides (place + length c1) (place + length (c1 ++ rest)) cells frames w' (has_back code.places place c1 rest has) len high (within_on in_ k) b);
  })
    where
      sides : (p end : ℕ) (cells : List Value) (frames : List Frame) (w : RunState) → HasAt code.places p (here_is t (Jump (length c2)) ∷ c2) → p + 1 + length c2 ≡ end → length cells ≡ height t → Within code n w → (b : Bool) → Reaches code (at (past 1 b p) cells frames w) (arrive (λ b w'. at (past skip b end) cells frames w') frames (look l (λ s. either b (g s)) w))
      sides p end cells frames w h len high in_ true = jumps (length c2) p end cells frames w _ h.0 len here
      sides p end cells frames w h len high in_ false =
          subst (λ e. Reaches code (at (p + 1) cells frames w) (arrive (λ b w'. at (past skip b e) cells frames w') frames (look l g w))) len (r2.by (p + 1) cells frames w high h.1 in_)

  -- a condition that must not hold
  pub not_lands : {c : List Placed} (l : Line) (skip : ℕ) (f : Store → OkOr Bool Failure) → Lands code n (height t) same c (past 1) done (look l f) → Lands code n (height t) same (c ++ (here_is t (Jump skip) ∷ [])) (past skip) done (look l (λ s. if_ok (f s) (λ b. Ok (not b))))
  not_lands {c = c} l skip f r = alike code n (height t) (λ w. looks_then l (f w.store) (λ b s. Ok (not b)) w) (record {
    by = λ place cells frames w high has in_.
        let tail = here_is t (Jump skip) ∷ [] in
        let len : place + length c + 1 ≡ place + length (c ++ tail) = omega (arith, length-append c tail) in
        join (at place cells frames w) (λ b w'. at (past 1 b (place + length c)) cells frames w') (λ b w'. at (past skip b (place + length (c ++ tail))) cells frames w') frames (look l f w) (λ b. look l (λ s. Ok (not b)))
        (r.by place cells frames w high (has_front code.places place c tail has) in_)
        (λ b w' k. sides (place + length c) (place + length (c ++ tail)) cells frames w' (has_back code.places place c tail has).0 len b);
  })
    where
      sides : (p end : ℕ) (cells : List Value) (frames : List Frame) (w : RunState) → slice_get code.places p ≡ Some (here_is t (Jump skip)) → p + 1 ≡ end → (b : Bool) → Reaches code (at (past 1 b p) cells frames w) (Comes (at (past skip (not b) end) cells frames w))
      sides p end cells frames w h len true = jumps skip p (end + skip) cells frames w _ h (omega (arith, len)) here
      sides p end cells frames w h len false = subst (λ q. Reaches code (at (p + 1) cells frames w) (Comes (at q cells frames w))) len here

  -- a choice by a test
  module _ (test : ℕ → List Placed) (mt : Part Bool) (rt : (skip : ℕ) → Lands code n (height t) same (test skip) (past skip) done mt) where
    pub if_run : {ca cb : List Placed} {ma mb : Part (Unit {0})} → Runs code n (height t) same ca done ma → Runs code n (height t) same cb done mb → Runs code n (height t) same (test (length ca + 1) ++ (ca ++ (here_is t (Jump (length cb)) ∷ cb))) done (λ w. outcome_then (mt w) (λ b. choose b ma mb))
    if_run {ca = ca} {cb = cb} {ma = ma} {mb = mb} ra rb = record {
      by = λ place cells frames w high has in_.
          let skip = length ca + 1 in
          let ct = test skip in
          let rest = ca ++ (here_is t (Jump (length cb)) ∷ cb) in
          let end = place + length (ct ++ rest) in
          let len : place + length ct + 1 + length cb + length ca ≡ end = omega (arith, length-append ct rest, length-append ca (here_is t (Jump (length cb)) ∷ cb)) in
          join (at place cells frames w) (λ b w'. at (past skip b (place + length ct)) cells frames w') (λ u w'. at end cells frames w') frames (mt w) (λ b. choose b ma mb)
          ((rt skip).by place cells frames w high (has_front code.places place ct rest has) in_)
          (λ b w' k. sides (place + length ct) cells frames w' end len (has_back code.places place ct rest has) high (within_on in_ k) b);
    }
      where
        sides : (p : ℕ) (cells : List Value) (frames : List Frame) (w : RunState) (end : ℕ) → p + 1 + length cb + length ca ≡ end → HasAt code.places p (ca ++ (here_is t (Jump (length cb)) ∷ cb)) → length cells ≡ height t → Within code n w → (b : Bool) → Reaches code (at (past (length ca + 1) b p) cells frames w) (arrive (λ u w'. at end cells frames w') frames (choose b ma mb w))
        sides p cells frames w end len h high in_ true =
            follow (at p cells frames w) (λ u w'. at (p + length ca) cells frames w') (λ u w'. at end cells frames w') frames (ma w)
            (ra.by p cells frames w high (has_front code.places p ca _ h) in_)
            (λ u w' k. jumps (length cb) (p + length ca) end cells frames w' _ (has_back code.places p ca _ h).0 (omega (arith, len)) here)
        sides p cells frames w end len h high in_ false =
            let h' = (has_back code.places p ca _ h).1 in
            let e : p + length ca + 1 ≡ p + (length ca + 1) = omega arith in
            let q : p + length ca + 1 + length cb ≡ end = omega (arith, len) in
            subst (λ j. Reaches code (at j cells frames w) (arrive (λ u w'. at end cells frames w') frames (mb w))) e
            (subst (λ j. Reaches code (at (p + length ca + 1) cells frames w) (arrive (λ u w'. at j cells frames w') frames (mb w))) q
            (rb.by (p + length ca + 1) cells frames w high h' in_))

    -- an if without a jump, where the second side is empty
    pub if_alone_run : {ca : List Placed} {ma mb : Part (Unit {0})} → Runs code n (height t) same ca done ma → Runs code n (height t) same [] done mb → Runs code n (height t) same (test (length ca) ++ ca) done (λ w. outcome_then (mt w) (λ b. choose b ma mb))
    if_alone_run {ca = ca} {ma = ma} {mb = mb} ra rb = record {
      by = λ place cells frames w high has in_.
          let ct = test (length ca) in
          let end = place + length (ct ++ ca) in
          let len : place + length ct + length ca ≡ end = omega (arith, length-append ct ca) in
          join (at place cells frames w) (λ b w'. at (past (length ca) b (place + length ct)) cells frames w') (λ u w'. at end cells frames w') frames (mt w) (λ b. choose b ma mb)
          ((rt (length ca)).by place cells frames w high (has_front code.places place ct ca has) in_)
          (λ b w' k. sides (place + length ct) cells frames w' end len (has_back code.places place ct ca has) high (within_on in_ k) b);
    }
      where
        sides : (p : ℕ) (cells : List Value) (frames : List Frame) (w : RunState) (end : ℕ) → p + length ca ≡ end → HasAt code.places p ca → length cells ≡ height t → Within code n w → (b : Bool) → Reaches code (at (past (length ca) b p) cells frames w) (arrive (λ u w'. at end cells frames w') frames (choose b ma mb w))
        sides p cells frames w end len h high in_ true =
            subst (λ j. Reaches code (at p cells frames w) (arrive (λ u w'. at j cells frames w') frames (ma w))) len (ra.by p cells frames w high h in_)
        sides p cells frames w end len h high in_ false =
            let q : p + length ca + 0 ≡ end = omega (arith, len) in
            subst (λ j. Reaches code (at (p + length ca) cells frames w) (arrive (λ u w'. at j cells frames w') frames (mb w))) q
            (rb.by (p + length ca) cells frames w high tt in_)
