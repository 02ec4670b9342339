-- A whole program and its code.
use Rattle.std.proofs.Common.{◌≡◌, ℕ, zero, suc, ◌+◌, ◌≤◌, List, [], ◌∷◌, ◌++◌, length, Some, refl, subst, arith}
use Rattle.std.specs.Prelude.{◌≢◌, slice_get}
use Rattle.ss_code_instructions.proofs.Common.{Code, CodeBehaves, core_at, effects, Event, HasGoneRight, IsFaithful, Left, Lines, MachineState, Outcome, Placed, Program, Routine, start, WentOn, Wrong}
use Rattle.ss_code_instructions.specs.Translation.{all_events, all_routines, block_code, block_prints, code_of, first_site, main_code, place, Site, main_scope, routine_code, event_code, routines_code, events_code, routines_prints, events_prints, routine_entries, event_entries, main_prints, prints_before_events}
use Rattle.ss_meaning.specs.Meaning.{calls, WentWrong, run_of, first_run_state, meaning}
use Rattle.ss_code_instructions.specs.Instructions as i
use Rattle.ss_code_instructions.proofs.Joining.{Joined, first_joined}
use Rattle.ss_code_instructions.proofs.Steps.{HasAt, has_front, has_back, has_all, Finishes, Reaches, reaches_on, in_steps, Agrees, agrees, at, arrive}
use Rattle.ss_code_instructions.proofs.Parts.{Within, ends, step_leads}
use Rattle.ss_code_instructions.proofs.Blocks.{block_runs}
use Rattle.ss_code_instructions.proofs.Entering.{RoutineAt, EventAt, Linked, calls_run}

-- ## Where the sections of a program are

module _ (code : Code) (p : Program) where
  linked_routines : (rs : List Routine) (q first : ℕ) → HasAt code.places q (routines_code p first rs) → HasAt code.prints first (routines_prints rs) → (r : ℕ) → RoutineAt code p (slice_get rs r) (slice_get (routine_entries p q first rs) r)
  linked_routines [] q first has prints r = tt
  linked_routines (x ∷ rs) q first has prints zero = record {
    begins = q;
    first = first;
    is = refl;
    lies = has_front code.places q (routine_code p first x) (routines_code p (first + length (block_prints x.body)) rs) has;
    prints = has_front code.prints first (block_prints x.body) (routines_prints rs) prints;
  }
  linked_routines (x ∷ rs) q first has prints (suc r) =
      linked_routines rs (q + length (routine_code p first x)) (first + length (block_prints x.body))
      (has_back code.places q (routine_code p first x) (routines_code p (first + length (block_prints x.body)) rs) has)
      (has_back code.prints first (block_prints x.body) (routines_prints rs) prints) r

  linked_events : (es : List Event) (q first : ℕ) → HasAt code.places q (events_code p first es) → HasAt code.prints first (events_prints es) → (r : ℕ) → EventAt code p (slice_get es r) (slice_get (event_entries p q first es) r)
  linked_events [] q first has prints r = tt
  linked_events (x ∷ es) q first has prints zero = record {
    begins = q;
    first = first;
    is = refl;
    lies = has_front code.places q (event_code p first x) (events_code p (first + length (block_prints x.body)) es) has;
    prints = has_front code.prints first (block_prints x.body) (events_prints es) prints;
  }
  linked_events (x ∷ es) q first has prints (suc r) =
      linked_events es (q + length (event_code p first x)) (first + length (block_prints x.body))
      (has_back code.places q (event_code p first x) (events_code p (first + length (block_prints x.body)) es) has)
      (has_back code.prints first (block_prints x.body) (events_prints es) prints) r

module _ (p : Program) where
  abbrev pub code : Code
  code = code_of p

  -- ## Its places, and its PRINTs

  abbrev pub sections : List Placed
  sections = all_routines p ++ all_events p

  abbrev pub later_prints : List Lines
  later_prints = routines_prints p.routines ++ events_prints p.events

  from_zero : (n : ℕ) → 0 + n ≡ n
  from_zero n = omega arith

  all_here : HasAt code.places 0 (main_code p ++ sections)
  all_here = has_all (main_code p ++ sections) []

  pub main_here : HasAt code.places 0 (main_code p)
  main_here = has_front code.places 0 (main_code p) sections all_here

  pub after_main : HasAt code.places (length (main_code p)) sections
  after_main =
      subst (λ j. HasAt code.places j sections) (from_zero (length (main_code p))) (has_back code.places 0 (main_code p) sections all_here)

  pub all_prints : HasAt code.prints 0 (block_prints p.main ++ later_prints)
  all_prints = has_all (block_prints p.main ++ later_prints) []

  pub prints_after : HasAt code.prints (main_prints p) later_prints
  prints_after =
      subst (λ j. HasAt code.prints j later_prints) (from_zero (main_prints p)) (has_back code.prints 0 (block_prints p.main) later_prints all_prints)

  pub program_linked : Linked code p
  program_linked = record {
    setting = refl;
    routines = linked_routines code p p.routines (length (main_code p)) (main_prints p)
        (has_front code.places (length (main_code p)) (all_routines p) (all_events p) after_main)
        (has_front code.prints (main_prints p) (routines_prints p.routines) (events_prints p.events) prints_after);
    events = linked_events code p p.events (length (main_code p) + length (all_routines p)) (prints_before_events p)
        (has_back code.places (length (main_code p)) (all_routines p) (all_events p) after_main)
        (has_back code.prints (main_prints p) (routines_prints p.routines) (events_prints p.events) prints_after);
  }

  -- ## MAIN, and the end of a run

  -- as a run begins the program says what its code says, and no set has a member
  first_within : (input : List ℕ) (n : ℕ) → Within code n (first_run_state p input n)
  first_within input n =
      let all : n ≤ n = omega arith in
      let lives : Joined (first_run_state p input n).store.world.heap = first_joined p.layout in
      record { ticks = all; says = (refl, lives) }

  main_end : (u : Site) (q : ℕ) (s : MachineState) (o : Outcome (Unit {0})) → slice_get code.places q ≡ Some (place u i.Leave) → (run_of o).ending ≢ WentWrong → Reaches code s (arrive (λ (a : Unit {0}) w'. at q [] [] w') [] o) → Reaches code s (Finishes (run_of o))
  main_end u q s (WentOn a w) has right g =
      reaches_on g (step_leads code (place u i.Leave) (core_at q [] [] w.store) w _ _ has refl refl ends)
  main_end u q s (Left Wrong w) has right g = absurd (right refl)
  main_end u q s (Left _ w) has right g = g

  -- the simulation, for each program that does not go wrong, well typed or not
  pub program_runs : (input : List ℕ) (n : ℕ) → HasGoneRight p input n → Reaches code (start code input n) (Finishes (meaning p input n))
  program_runs input n right =
      let t : Site = first_site (main_scope p) in
      let b : List Placed = block_code t 0 p.main in
      let last : List Placed = place t i.Leave ∷ [] in
      main_end t (0 + length b) (start code input n) (effects (calls p n) n p.main (first_run_state p input n)) (has_back code.places 0 b last main_here).0 right
      ((block_runs code n (calls p n) (calls_run code p program_linked n) t refl 0 p.main (has_front code.prints 0 (block_prints p.main) later_prints all_prints)).by 0 [] [] (first_run_state p input n) refl (has_front code.places 0 b last main_here) (first_within input n))

  pub behaves : IsFaithful p code
  behaves = record {
    ends = λ input n right. in_steps (program_runs input n right);
    only = λ input n m r right e. subst (Agrees (meaning p input n)) e (agrees (program_runs input n right) m);
    never_stuck = λ input n m right e. subst (Agrees (meaning p input n)) e (agrees (program_runs input n right) m);
  }

-- the code of each program does what the program means
pub code_behaves : CodeBehaves
code_behaves p = behaves p
