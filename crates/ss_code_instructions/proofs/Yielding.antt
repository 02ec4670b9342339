-- A call yields as many values as are wanted; and what is given to a section is as many as it takes.
use Rattle.std.proofs.Common.{◌≡◌, ℕ, zero, suc, ◌==◌, Bool, true, false, List, [], ◌∷◌, ◌++◌, length, Option, Some, None, refl, ap, subst, if◌then◌else◌}
use Rattle.ss_code_instructions.proofs.Common.{appended, Calls, calls, come_back, effects, enclosed, first_values, front, Left, Mode, mode_of, needed, opened, Outcome, outcome_then, Part, prepended, Program, Returned, Routine, routine_called, RunState, same_mode, slice_get, taken_by_modes, tick_from, Value, WentOn, with_locals, Wrong, yielded}
use Rattle.ss_code_instructions.proofs.Keeping.{Where}
use Rattle.ss_code_instructions.proofs.Parts.{ticked}
use Rattle.ss_code_instructions.proofs.Following.{IfWentOn}

-- ## What is yielded

abbrev pub AsWanted : ℕ → List Value → Type 0
AsWanted k us = length us ≡ k

front_many : (k : ℕ) (vs : List Value) → Where (AsWanted k) (front k vs)
front_many zero vs = refl
front_many (suc k) [] = tt
front_many (suc k) (v ∷ vs) = longer (front k vs) (front_many k vs)
  where
    longer : (o : Option (List Value)) → Where (AsWanted k) o → Where (AsWanted (suc k)) (prepended v o)
    longer None h = tt
    longer (Some us) h = ap suc h

yielded_many : (first count : ℕ) (vs : List Value) → Where (AsWanted count) (yielded first count vs)
yielded_many zero count vs = front_many count vs
yielded_many (suc k) count [] = tt
yielded_many (suc k) count (v ∷ vs) = yielded_many k count vs

back_such : (count : ℕ) (o : Option (List Value)) (ls : List Value) (w : RunState) → Where (AsWanted count) o → IfWentOn (AsWanted count) (outcome_then (needed o w) (λ vs w. WentOn vs (with_locals ls w)))
back_such count None ls w h = tt
back_such count (Some us) ls w h = h

come_such : (first count : ℕ) (ls : List Value) (o : Outcome (Unit {0})) → IfWentOn (AsWanted count) (come_back first count ls o)
come_such first count ls (WentOn u w) = back_such count (yielded first count w.store.locals) ls w (yielded_many first count w.store.locals)
come_such first count ls (Left Returned w) = back_such count (yielded first count w.store.locals) ls w (yielded_many first count w.store.locals)
come_such first count ls (Left _ w) = tt

pub enclosed_such : (given others : List Mode) (body : Part (Unit {0})) (vs : List Value) (count : ℕ) (w : RunState) → IfWentOn (AsWanted count) (enclosed given others body vs count w)
enclosed_such given others body vs count w = from (opened given others vs)
  where
    from : (o : Option (List Value)) → IfWentOn (AsWanted count) (outcome_then (needed o w) (λ ls w. come_back (length given) count w.store.locals (body (with_locals ls w))))
    from None = tt
    from (Some ls) = come_such (length given) count w.store.locals (body (with_locals ls w))

called_such : (o : Option Routine) (h : Calls) (n : ℕ) (vs : List Value) (count : ℕ) (w : RunState) → IfWentOn (AsWanted count) (routine_called o h n vs count w)
called_such None h n vs count w = tt
called_such (Some r) h n vs count w = sides (count == length r.yielding)
  where
    sides : (b : Bool) → IfWentOn (AsWanted count) (if b then enclosed r.given (r.yielding ++ r.others) (effects h n r.body) vs count w else Left Wrong w)
    sides true = enclosed_such r.given (r.yielding ++ r.others) (effects h n r.body) vs count w
    sides false = tt

pub calls_such : (p : Program) (n routine count : ℕ) (vs : List Value) (w : RunState) → IfWentOn (AsWanted count) ((calls p n).call routine vs count w)
calls_such p zero routine count vs w = tt
calls_such p (suc n) routine count vs w = from w.ticks
  where
    from : (t : ℕ) → IfWentOn (AsWanted count) (tick_from t (routine_called (slice_get p.routines routine) (calls p n) n vs count) w)
    from zero = tt
    from (suc t) = called_such (slice_get p.routines routine) (calls p n) n vs count (ticked t w)

-- ## What is given

taken_many : (ms : List Mode) (vs : List Value) → Where (λ (ls : List Value). length ms ≡ length vs) (taken_by_modes ms vs)
taken_many [] [] = refl
taken_many [] (v ∷ vs) = tt
taken_many (m ∷ ms) [] = tt
taken_many (m ∷ ms) (v ∷ vs) = sides (same_mode (mode_of v) m) (taken_many ms vs)
  where
    longer : (o : Option (List Value)) → Where (λ (ls : List Value). length ms ≡ length vs) o → Where (λ (ls : List Value). suc (length ms) ≡ suc (length vs)) (prepended v o)
    longer None h = tt
    longer (Some ls) h = ap suc h

    sides : (b : Bool) → Where (λ (ls : List Value). length ms ≡ length vs) (taken_by_modes ms vs) → Where (λ (ls : List Value). suc (length ms) ≡ suc (length vs)) (if b then prepended v (taken_by_modes ms vs) else None)
    sides true h = longer (taken_by_modes ms vs) h
    sides false h = tt

-- a section that is opened is given as many values as it takes
pub opened_many : (given others : List Mode) (vs ls : List Value) → opened given others vs ≡ Some ls → length given ≡ length vs
opened_many given others vs ls e =
    subst (Where (λ (ls : List Value). length given ≡ length vs)) e (by (taken_by_modes given vs) (taken_many given vs))
  where
    by : (o : Option (List Value)) → Where (λ (ls : List Value). length given ≡ length vs) o → Where (λ (ls : List Value). length given ≡ length vs) (appended o (first_values others))
    by None h = tt
    by (Some us) h = h
