-- Cells that are forgotten.
use Rattle.std.proofs.Common.{◌≡◌, ℕ, zero, suc, ◌+◌, ◌-◌, List, [], ◌∷◌, ◌++◌, length, Some, refl, ap, ◌∙◌, subst, arith}
use Rattle.ss_code_instructions.proofs.Common.{Code, core_at, fit, forget, Frame, onward, place, RunState, Site, take_off, TakenOff, Value}
use Rattle.ss_code_instructions.specs.Instructions as i
use Rattle.ss_code_instructions.proofs.Steps.{HasAt, Comes, Reaches, here, at}
use Rattle.ss_code_instructions.proofs.Parts.{onwards, step_leads}

-- how many lie above a height
pub two_more : (h : ℕ) → suc (suc h) - h ≡ 2
two_more h = omega arith

pub three_more : (h : ℕ) → suc (suc (suc h)) - h ≡ 3
three_more h = omega arith

taken_off : (more cells vs : List Value) → (us : List Value) × (take_off (length more) (more ++ cells) vs ≡ Some (record { values = us; below = cells }))
taken_off [] cells vs = (vs, refl)
taken_off (v ∷ more) cells vs = taken_off more cells (v ∷ vs)

module _ (code : Code) (n : ℕ) where
  pub forget_run : (u : Site) (count q : ℕ) (more cells : List Value) (frames : List Frame) (w : RunState) → count ≡ length more → HasAt code.places q (forget u count) → Reaches code (at q (more ++ cells) frames w) (Comes (at (q + length (forget u count)) cells frames w))
  forget_run u zero q [] cells frames w e has =
      let z : q ≡ q + 0 = omega arith in subst (λ j. Reaches code (at q cells frames w) (Comes (at j cells frames w))) z here
  forget_run u zero q (v ∷ more) cells frames w e has = absurd (omega (arith, e))
  forget_run u (suc k) q more cells frames w e has =
      let off = taken_off more cells [] in
      step_leads code (place u (i.Forget (suc k))) (core_at q (more ++ cells) frames w.store) w _ _ has.0 refl
      (ap (λ c. fit (take_off c (more ++ cells) []) (λ (b : TakenOff). onward b.below (core_at q (more ++ cells) frames w.store) w.store)) e
      ∙ ap (λ o. fit o (λ (b : TakenOff). onward b.below (core_at q (more ++ cells) frames w.store) w.store)) off.1)
      (onwards here)
