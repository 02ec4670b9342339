-- A section is left: what it yields lies on the caller's cells then, the first on top.
use Rattle.std.proofs.Common.{◌≡◌, ℕ, zero, suc, ◌+◌, List, [], ◌∷◌, ◌++◌, length, Option, Some, None, refl, ap, ◌∙◌, subst, arith, length-append}
use Rattle.std.specs.Prelude.{slice_get}
use Rattle.ss_base.specs.declared.value.Value.{Value}
use Rattle.ss_base.specs.declared.value.Value.TheVariants.{Whole, Text}
use Rattle.ss_meaning.specs.Store.{prepended, front, yielded}
use Rattle.ss_code_instructions.specs.States.{Frame, Core, core_at}
use Rattle.ss_machine_frames.specs.declared.frames.Frame.{Frame as Call}
use Rattle.ss_machine_frames.specs.Rows.{TwoRows, IsValueAt, AreAlike, AreYielded}
use Rattle.ss_machine_frames.specs.Holding.{AreCellsAt, AreCallsAt, IsCoreHeld}
use Rattle.ss_machine_frames.proofs.Places.{agree_within, all_agree, cells_agree, all_get, low_under, calls_agree}

-- ## What is yielded

-- they are so many, and each is one of the variables
pub record Picked (first count : ℕ) (locals vs : List Value) : Type 0 where
  pub long : length vs ≡ count
  pub each : (k : ℕ) (v : Value) → slice_get vs k ≡ Some v → slice_get locals (first + k) ≡ Some v

picked_more : (n : ℕ) (x : Value) (locals ws : List Value) → Picked 0 n locals ws → (k : ℕ) (v : Value) → slice_get (x ∷ ws) k ≡ Some v → slice_get (x ∷ locals) (0 + k) ≡ Some v
picked_more n x locals ws p zero v h = let z : 0 + 0 ≡ 0 = omega arith in ap (slice_get (x ∷ locals)) z ∙ h
picked_more n x locals ws p (suc k) v h =
    let z : 0 + suc k ≡ suc (0 + k) = omega arith in
    ap (slice_get (x ∷ locals)) z ∙ p.each k v h

picked_front : (count : ℕ) (locals vs : List Value) → front count locals ≡ Some vs → Picked 0 count locals vs
picked_front zero locals vs e = let q : [] ≡ vs = cc in subst (λ vs. Picked 0 zero locals vs) q (record { long = refl; each = λ k v p. absurd cc })
picked_front (suc n) [] vs e = absurd cc
picked_front (suc n) (x ∷ locals) vs e = by (λ ws q. picked_front n locals ws q) (front n locals) refl e
  where
    by : ((ws : List Value) → front n locals ≡ Some ws → Picked 0 n locals ws) → (o : Option (List Value)) → front n locals ≡ o → prepended x o ≡ Some vs → Picked 0 (suc n) (x ∷ locals) vs
    by rest None q e = absurd cc
    by rest (Some ws) q e =
        let p = rest ws q in
        let same : x ∷ ws ≡ vs = cc in
        subst (λ vs. Picked 0 (suc n) (x ∷ locals) vs) same (record { long = ap suc p.long; each = picked_more n x locals ws p })

pub picked : (first count : ℕ) (locals vs : List Value) → yielded first count locals ≡ Some vs → Picked first count locals vs
picked zero count locals vs e = picked_front count locals vs e
picked (suc n) count [] vs e = absurd cc
picked (suc n) count (x ∷ locals) vs e =
    let p = picked n count locals vs e in
    record {
      long = p.long;
      each = λ k v h. let z : suc n + k ≡ suc (n + k) = omega arith in ap (slice_get (x ∷ locals)) z ∙ p.each k v h;
    }

-- one of them lies where it is to lie
yielded_value : (r s : TwoRows) (from to count k i : ℕ) (v : Value) → AreYielded r s from to count → k + i + 1 ≡ count → IsValueAt r (from + k) v → IsValueAt s (to + i) v
yielded_value r s from to count k i (Whole z) y e h = y.numbers.moved k i e ∙ h
yielded_value r s from to count k i (Text t) y e h = y.texts.moved k i e ∙ h

yielded_agree : (r s : TwoRows) (from to count : ℕ) → AreYielded r s from to count → AreAlike r s 0 to
yielded_agree r s from to count y = record { numbers = λ j a b. y.numbers.below j b; texts = λ j a b. y.texts.below j b }

-- those from a number on lie on the cells that there were
yields_from : (r s : TwoRows) (low from to count done : ℕ) (below vs : List Value) → AreYielded r s from to count → AreCellsAt s low below → to ≡ low + length below → done + length vs ≡ count → ((k : ℕ) (v : Value) → slice_get vs k ≡ Some v → IsValueAt r (from + (done + k)) v) → AreCellsAt s low (vs ++ below)
yields_from r s low from to count done below [] y here e n each = here
yields_from r s low from to count done below (v ∷ vs) y here e n each =
    let at : to + length vs ≡ low + length (vs ++ below) = omega (arith, e, length-append vs below) in
    let z : from + (done + 0) ≡ from + done = omega arith in (
      subst (λ j. IsValueAt s j v) at (yielded_value r s from to count done (length vs) v y (omega (arith, n)) (subst (λ j. IsValueAt r j v) z (each 0 v refl))),
      yields_from r s low from to count (suc done) below vs y here e (omega (arith, n)) (λ k w h.
          let q : from + (done + suc k) ≡ from + (suc done + k) = omega arith in
          subst (λ j. IsValueAt r j w) q (each (suc k) w h)),
    )

-- ## The caller's frame

-- What is held once a section is left whose caller has these variables and cells. The rows are as they were below the frame that is left, and on the caller's
-- cells lies what is yielded.
left_by : (constants : List Value) (depth frame : ℕ) (r s : TwoRows) (g : Call) (gs : List Call) (c : Core) (f : Frame) (fs : List Frame) (vs : List Value) → IsCoreHeld constants depth frame r (g ∷ gs) c → c.frames ≡ f ∷ fs → AreAlike r s 0 frame → length s.numbers ≡ length r.numbers → (AreCellsAt s (g.caller + length f.locals) f.cells → AreCellsAt s (g.caller + length f.locals) (vs ++ f.cells)) → IsCoreHeld constants depth g.caller s gs (core_at f.back (vs ++ f.cells) fs (record c.store { locals = f.locals }))
left_by constants depth frame r s g gs c f fs vs h e a long put =
    let calls = subst (λ fs. AreCallsAt r (length c.store.globals + length constants) frame (g ∷ gs) fs) e h.open_calls in
    let under = low_under r (length c.store.globals + length constants) g.caller gs fs calls.6 in
    let n = c.store.globals in
    record {
      globals = all_agree r s 0 n (agree_within r s 0 frame 0 (0 + length n) (omega arith) (omega (arith, under, calls.5)) a) h.globals;
      fixed = all_agree r s (length n) constants (agree_within r s 0 frame (length n) (length n + length constants) (omega arith) (omega (arith, under, calls.5)) a) h.fixed;
      locals = all_agree r s g.caller f.locals (agree_within r s 0 frame g.caller (g.caller + length f.locals) (omega arith) (omega (arith, calls.5)) a) calls.3;
      cells = put (cells_agree r s (g.caller + length f.locals) f.cells (agree_within r s 0 frame (g.caller + length f.locals) (g.caller + length f.locals + length f.cells) (omega arith) (omega (arith, calls.5)) a) calls.4);
      open_calls = calls_agree r s (length n + length constants) g.caller gs fs (agree_within r s 0 frame (length n + length constants) g.caller (omega arith) (omega (arith, calls.5)) a) calls.6;
      room = omega (arith, long, calls.5, h.room);
      small = omega (arith, long, h.small);
    }

-- where something is yielded
pub left_with : (constants : List Value) (depth frame : ℕ) (r s : TwoRows) (g : Call) (gs : List Call) (c : Core) (f : Frame) (fs : List Frame) (vs : List Value) → IsCoreHeld constants depth frame r (g ∷ gs) c → c.frames ≡ f ∷ fs → yielded f.first f.count c.store.locals ≡ Some vs → AreYielded r s (frame + g.given) frame g.yielding → IsCoreHeld constants depth g.caller s gs (core_at f.back (vs ++ f.cells) fs (record c.store { locals = f.locals }))
left_with constants depth frame r s g gs c f fs vs h e q y =
    let calls = subst (λ fs. AreCallsAt r (length c.store.globals + length constants) frame (g ∷ gs) fs) e h.open_calls in
    let p = picked f.first f.count c.store.locals vs q in
    left_by constants depth frame r s g gs c f fs vs h e (yielded_agree r s (frame + g.given) frame g.yielding y) y.numbers.long (λ here.
    yields_from r s (g.caller + length f.locals) (frame + g.given) frame g.yielding 0 f.cells vs y here calls.5 (omega (arith, p.long, calls.2)) (λ k v k_is.
    let at : frame + (f.first + k) ≡ frame + g.given + (0 + k) = omega (arith, calls.1) in
    subst (λ j. IsValueAt r j v) at (all_get r frame (f.first + k) c.store.locals v h.locals (p.each k v k_is))))

-- where nothing is yielded
pub left_without : (constants : List Value) (depth frame : ℕ) (r : TwoRows) (g : Call) (gs : List Call) (c : Core) (f : Frame) (fs : List Frame) (vs : List Value) → IsCoreHeld constants depth frame r (g ∷ gs) c → c.frames ≡ f ∷ fs → yielded f.first f.count c.store.locals ≡ Some vs → g.yielding ≡ 0 → IsCoreHeld constants depth g.caller r gs (core_at f.back (vs ++ f.cells) fs (record c.store { locals = f.locals }))
left_without constants depth frame r g gs c f fs vs h e q none =
    let calls = subst (λ fs. AreCallsAt r (length c.store.globals + length constants) frame (g ∷ gs) fs) e h.open_calls in
    let p = picked f.first f.count c.store.locals vs q in
    let short : length vs ≡ 0 = omega (arith, p.long, calls.2, none) in
    let same : AreAlike r r 0 frame = record { numbers = λ j a b. refl; texts = λ j a b. refl } in
    left_by constants depth frame r r g gs c f fs vs h e same refl (λ here. nothing vs short here)
  where
    nothing : (vs : List Value) → length vs ≡ 0 → AreCellsAt r (g.caller + length f.locals) f.cells → AreCellsAt r (g.caller + length f.locals) (vs ++ f.cells)
    nothing [] z here = here
    nothing (v ∷ vs) z here = absurd (omega (arith, z))
