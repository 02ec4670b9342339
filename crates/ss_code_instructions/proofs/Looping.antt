-- The code of loops led by WHILE or UNTIL, and of the phrases of a FOR.
use Rattle.std.proofs.Common.{◌≡◌, ℕ, suc, ◌+◌, ◌-◌, ◌≤◌, Bool, true, false, not, List, [], ◌∷◌, ◌++◌, length, Some, Ok, Err, refl, sym, ap, ◌∙◌, subst, arith, length-append}
use Rattle.std.specs.Prelude.{slice_get, Result as OkOr}
use Rattle.ss_code_instructions.proofs.Common.{act, all_pass, Code, Condition, core_at, Fails, Failure, Frame, Guard, holds, if_ok, is_due, past, Phrase, PhraseKind, Placed, To, TypeError, Value}
use Rattle.ss_code_instructions.specs.Translation.{guards_code, height, phrases_code, Site, place as here_is, loop_code, phrase_code}
use Rattle.ss_meaning.specs.Loops.{EndsLoop, GoesOn, IsFound, Turn, phrase, phrases, guarded_turn, guarded}
use Rattle.ss_meaning.specs.Parts.{Again, choose, look, looked, loop, outcome_then, Part, RunState, WentOn, Over}
use Rattle.ss_base.specs.declared.words.PhraseKind.TheVariants as kinds
use Rattle.ss_code_instructions.specs.Instructions as i
use Rattle.ss_code_instructions.proofs.Steps.{HasAt, has_front, has_back, Goal, Comes, Reaches, here, at, arrive, join}
use Rattle.ss_code_instructions.proofs.Parts.{Within, within_on, onwards, step_leads, Lands, Runs, same, done, alike}
use Rattle.ss_code_instructions.proofs.Loops.{turned, Turns, loop_run}
use Rattle.ss_code_instructions.proofs.Conditions.{condition_lands, negated_lands, guards_land}

-- where a turn of a FOR leads: to its end, past the next instruction, or to where the case was found
abbrev pub leads : ℕ → Turn → ℕ → ℕ
leads found GoesOn end = end
leads found EndsLoop end = end + 1
leads found IsFound end = end + found

-- where a FOR leads
abbrev pub past_loop : ℕ → Bool → ℕ → ℕ
past_loop found false end = end + 2
past_loop found true end = end + found + 1

-- one step that leads to a place named otherwise
pub leap : (code : Code) (x : Placed) (p q q' : ℕ) (cells cells' : List Value) (frames : List Frame) (w : RunState) (r : Goal) → slice_get code.places p ≡ Some x → is_due x.instruction ≡ false → act code x.line x.instruction (core_at p cells frames w.store) ≡ To (core_at q cells' frames w.store) → q ≡ q' → Reaches code (at q' cells' frames w) r → Reaches code (at p cells frames w) r
leap code x p q q' cells cells' frames w r has calm e same f =
    step_leads code x (core_at p cells frames w.store) w (To (core_at q cells' frames w.store)) r has calm e (onwards (subst (λ j. Reaches code (at j cells' frames w) r) (sym same) f))

module _ (code : Code) (n : ℕ) (t : Site) where
  -- ## Loops led by WHILE or UNTIL

  module _ (gs : List Guard) (cb : List Placed) (mb : Part (Unit {0})) (rb : Runs code n (height t) same cb done mb) where
    abbrev again_code : List Placed
    again_code = guards_code t 1 gs

    abbrev repeat : Placed
    repeat = here_is t (i.Repeat (length cb + length again_code + 1))

    abbrev turn_code : List Placed
    turn_code = here_is t i.Turn ∷ (cb ++ (again_code ++ (repeat ∷ [])))

    guarded_turns : (p end : ℕ) (cells : List Value) (frames : List Frame) → length cells ≡ height t → HasAt code.places p turn_code → p + 1 + length cb + length again_code + 1 ≡ end → Turns code {C = Unit {0}} {A = Unit {0}} n p done (λ u. end) cells frames (guarded_turn t.line gs mb)
    guarded_turns p end cells frames high has len = record {
      head = here_is t i.Turn;
      has = has.0;
      due = refl;
      each = λ c w in_. onwards (turn_run w in_);
    }
      where
        last : (b : Bool) (w : RunState) → slice_get code.places (p + 1 + length cb + length again_code) ≡ Some repeat → Reaches code (at (past 1 b (p + 1 + length cb + length again_code)) cells frames w) (arrive (turned {C = Unit {0}} {A = Unit {0}} done p (λ u. end) cells frames) frames (choose b (WentOn (Again tt)) (WentOn (Over tt)) w))
        last true w h =
            let back : p + 1 + length cb + length again_code - (length cb + length again_code + 1) ≡ p = omega arith in
            leap code repeat (p + 1 + length cb + length again_code) _ p cells cells frames w _ h refl refl back here
        last false w h = subst (λ j. Reaches code (at (p + 1 + length cb + length again_code + 1) cells frames w) (Comes (at j cells frames w))) len here

        turn_run : (w : RunState) → Within code n w → Reaches code (at (p + 1) cells frames w) (arrive (turned {C = Unit {0}} {A = Unit {0}} done p (λ u. end) cells frames) frames (guarded_turn t.line gs mb tt w))
        turn_run w in_ =
            let p2 = p + 1 + length cb in
            let h2 = has_back code.places (p + 1) cb _ has.1 in
            let p3 = p2 + length again_code in
            join (at (p + 1) cells frames w) (λ u w'. at p2 cells frames w') (turned {C = Unit {0}} {A = Unit {0}} done p (λ u. end) cells frames) frames (mb w) (λ u w'. outcome_then (look t.line (all_pass gs) w') (λ b. choose b (WentOn (Again tt)) (WentOn (Over tt))))
            (rb.by (p + 1) cells frames w high (has_front code.places (p + 1) cb _ has.1) in_)
            (λ u w2 k.
            join (at p2 cells frames w2) (λ b w'. at (past 1 b p3) cells frames w') (turned {C = Unit {0}} {A = Unit {0}} done p (λ u. end) cells frames) frames (look t.line (all_pass gs) w2) (λ b. choose b (WentOn (Again tt)) (WentOn (Over tt)))
            ((guards_land code n t 1 gs).by p2 cells frames w2 high (has_front code.places p2 again_code _ h2) (within_on in_ k))
            (λ b w3 k'. last b w3 (has_back code.places p2 again_code _ h2).0))

    pub guarded_runs : Runs code n (height t) same (loop_code t gs cb) done (guarded n t.line gs mb)
    guarded_runs = record {
      by = λ p0 cells frames w high has in_.
          let skip = length cb + length again_code + 2 in
          let ct = guards_code t skip gs in
          let p = p0 + length ct in
          let end = p0 + length (loop_code t gs cb) in
          let len : p + 1 + length cb + length again_code + 1 ≡ end = omega (arith, length-append ct turn_code, length-append cb (again_code ++ (repeat ∷ [])), length-append again_code (repeat ∷ [])) in
          join (at p0 cells frames w) (λ b w'. at (past skip b p) cells frames w') (λ u w'. at end cells frames w') frames (look t.line (all_pass gs) w) (λ b. choose b (loop n (guarded_turn t.line gs mb) tt) (WentOn tt))
          ((guards_land code n t skip gs).by p0 cells frames w high (has_front code.places p0 ct _ has) in_)
          (λ b w' k. sides p end cells frames w' high (has_back code.places p0 ct _ has) len (within_on in_ k) b);
    }
      where
        sides : (p end : ℕ) (cells : List Value) (frames : List Frame) (w : RunState) → length cells ≡ height t → HasAt code.places p turn_code → p + 1 + length cb + length again_code + 1 ≡ end → Within code n w → (b : Bool) → Reaches code (at (past (length cb + length again_code + 2) b p) cells frames w) (arrive (λ u w'. at end cells frames w') frames (choose b (loop n (guarded_turn t.line gs mb) tt) (WentOn tt) w))
        sides p end cells frames w high h len in_ true =
            let below : n ≤ suc n = omega arith in
            loop_run code (guarded_turns p end cells frames high h len) n below tt w in_.ticks in_.says
        sides p end cells frames w high h len in_ false =
            let e : end ≡ p + (length cb + length again_code + 2) = omega (arith, len) in
            subst (λ j. Reaches code (at j cells frames w) (Comes (at end cells frames w))) e here

  -- ## Phrases

  module _ (found : ℕ) where
    -- a test before the rest of a turn: where it does not hold, the turn ends elsewhere
    tested : {c rest : List Placed} {mt : Part Bool} {m : Part Turn} (skip : ℕ) (other : Turn) → ((p : ℕ) → p + skip ≡ leads found other (p + length rest)) → Lands code n (height t) same c (past skip) done mt → Lands code n (height t) same rest (leads found) done m → Lands code n (height t) same (c ++ rest) (leads found) done (λ w. outcome_then (mt w) (λ b. choose b m (WentOn other)))
    tested {c = c} {rest = rest} {mt = mt} {m = m} skip other q rc rr = record {
      by = λ p cells frames w high has in_.
          let end = p + length (c ++ rest) in
          let len : p + length c + length rest ≡ end = omega (arith, length-append c rest) in
          join (at p cells frames w) (λ b w'. at (past skip b (p + length c)) cells frames w') (λ t w'. at (leads found t end) cells frames w') frames (mt w) (λ b. choose b m (WentOn other))
          (rc.by p cells frames w high (has_front code.places p c rest has) in_)
          (λ b w' k. sides (p + length c) end cells frames w' high len (has_back code.places p c rest has) (within_on in_ k) b);
    }
      where
        sides : (p end : ℕ) (cells : List Value) (frames : List Frame) (w : RunState) → length cells ≡ height t → p + length rest ≡ end → HasAt code.places p rest → Within code n w → (b : Bool) → Reaches code (at (past skip b p) cells frames w) (arrive (λ t w'. at (leads found t end) cells frames w') frames (choose b m (WentOn other) w))
        sides p end cells frames w high len h in_ true = subst (λ e. Reaches code (at p cells frames w) (arrive (λ t w'. at (leads found t e) cells frames w') frames (m w))) len (rr.by p cells frames w high h in_)
        sides p end cells frames w high len h in_ false =
            subst (λ e. Reaches code (at (p + skip) cells frames w) (Comes (at e cells frames w))) (q p ∙ ap (leads found other) len) here

    swapped : (r : OkOr Bool Failure) (m other : Part Turn) (w : RunState) → outcome_then (looked t.line (if_ok r (λ b. Ok (not b))) w) (λ b. choose b m other) ≡ outcome_then (looked t.line r w) (λ b. choose b other m)
    swapped (Ok true) m other w = refl
    swapped (Ok false) m other w = refl
    swapped (Err (Fails k)) m other w = refl
    swapped (Err TypeError) m other w = refl

    phrase_lands : (kind : PhraseKind) (c : Condition) {rest : List Placed} {m : Part Turn} → Lands code n (height t) same rest (leads found) done m → Lands code n (height t) same (phrase_code t (length rest) kind c ++ rest) (leads found) done (λ w. outcome_then (look t.line (holds c) w) (λ b. phrase kind b m))
    phrase_lands kinds.With c {rest = rest} r = tested (length rest) GoesOn (λ p. refl) (condition_lands code n t (length rest) c) r
    phrase_lands kinds.Unless c {rest = rest} {m = m} r =
        alike code n (height t) (λ w. swapped (holds c w.store) m (WentOn GoesOn) w) (tested (length rest) GoesOn (λ p. refl) (negated_lands code n t (length rest) c) r)
    phrase_lands kinds.While c {rest = rest} r = tested (length rest + 1) EndsLoop (λ p. omega arith) (condition_lands code n t (length rest + 1) c) r
    phrase_lands kinds.Until c {rest = rest} {m = m} r =
        alike code n (height t) (λ w. swapped (holds c w.store) m (WentOn EndsLoop) w) (tested (length rest + 1) EndsLoop (λ p. omega arith) (negated_lands code n t (length rest + 1) c) r)

    pub phrases_land : (ps : List Phrase) {turn : List Placed} {m : Part Turn} → Lands code n (height t) same turn (leads found) done m → Lands code n (height t) same (phrases_code t ps turn) (leads found) done (phrases t.line ps m)
    phrases_land [] r = record { by = λ p cells frames w high has in_. r.by p cells frames w high has in_ }
    phrases_land (p ∷ ps) r = phrase_lands p.kind p.condition (phrases_land ps r)
