-- The code of calls and of events: into a section, and back.
use Rattle.std.proofs.Common.{◌≡◌, ℕ, zero, suc, ◌+◌, ◌==◌, Bool, true, false, List, [], ◌∷◌, ◌++◌, length, Option, Some, None, Ok, refl, sym, ap, ◌∙◌, subst, arith, if◌then◌else◌}
use Rattle.ss_code_instructions.proofs.Common.{AnEvent, ARoutine, at_height, Beginning, Block, Called, Calls, Coming, Core, core_at, effects, EntryPoint, eqb-true, Event, event_begun, fit, Frame, Left, Line, MachineState, Moved, needed, next_event, opened, Outcome, outcome_then, Part, Placed, Program, Returned, Routine, RunState, slice_get, Store, then_nothing, TypedScope, Value, WentOn, with_block, Wrong, yielded}
use Rattle.ss_code_instructions.specs.Machine.{act, Code, enter, take_event, take_next, enter_with}
use Rattle.ss_code_instructions.specs.Translation.{block_code, block_prints, first_site, place, routine_entry, section_code, Site, routine_scope, event_scope, event_entry}
use Rattle.ss_meaning.specs.Meaning.{calls, with_locals, come_back, enclosed, routine_called, event_routine, begin, event_taken, setting_of}
use Rattle.ss_code_instructions.specs.Instructions as i
use Rattle.ss_code_instructions.proofs.Keeping.{Only, Where, Lasts, lasts_then, lasts_so, ComingSame, BeginningSame, event_same, begun_same}
use Rattle.ss_code_instructions.proofs.Steps.{HasAt, has_front, has_back, Reaches, reaches_on, at, arrive, landed}
use Rattle.ss_code_instructions.proofs.Parts.{Within, Leads, onwards, whatever, ticked, tick_run, out_run, did_leads, at_the_height, onto}
use Rattle.ss_code_instructions.proofs.Placing.{Sited}
use Rattle.ss_code_instructions.proofs.Stacked.{block_takes}
use Rattle.ss_code_instructions.proofs.Following.{within_ticked, within_store, IfWentOn, needed_leads}
use Rattle.ss_code_instructions.proofs.Assuming.{CallsRun}
use Rattle.ss_code_instructions.proofs.Simulating.{leave_run}
use Rattle.ss_code_instructions.proofs.Blocks.{block_runs}
use Rattle.ss_code_instructions.proofs.Yielding.{AsWanted, enclosed_such, calls_such, opened_many}

-- ## Where routines and events lie in the code

-- a section with this body lies in the code, and its entry point is made by its place
pub record IsSection (code : Code) (s : TypedScope) (body : Block) (entry : ℕ → EntryPoint) (e : EntryPoint) : Type 0 where
  pub begins : ℕ
  pub first : ℕ
  pub is : e ≡ entry begins
  pub lies : HasAt code.places begins (section_code s first body)
  pub prints : HasAt code.prints first (block_prints body)

abbrev pub RoutineAt : Code → Program → Option Routine → Option EntryPoint → Type 0
RoutineAt code p None None = Unit {0}
RoutineAt code p (Some r) (Some e) = IsSection code (routine_scope p r) r.body (λ at. routine_entry at r) e
RoutineAt code p None (Some e) = ⊥
RoutineAt code p (Some r) None = ⊥

abbrev pub EventAt : Code → Program → Option Event → Option EntryPoint → Type 0
EventAt code p None None = Unit {0}
EventAt code p (Some v) (Some e) = IsSection code (event_scope p v) v.body (λ at. event_entry at v) e
EventAt code p None (Some e) = ⊥
EventAt code p (Some v) None = ⊥

-- the code of a program: what it says once and for all, and where its sections are
pub record Linked (code : Code) (p : Program) : Type 0 where
  pub setting : code.setting ≡ setting_of p
  pub routines : (r : ℕ) → RoutineAt code p (slice_get p.routines r) (slice_get code.routines r)
  pub events : (r : ℕ) → EventAt code p (slice_get p.events r) (slice_get code.events r)

-- ## Into a section, and back

module _ (code : Code) where
  landed_back : (f : Frame) (fs : List Frame) (w : RunState) (s : MachineState) (o : Option (List Value)) → Reaches code s (landed o f fs w) → Reaches code s (arrive (λ us w'. at f.back (us ++ f.cells) fs w') fs (outcome_then (needed o w) (λ vs w. WentOn vs (with_locals f.locals w))))
  landed_back f fs w s None g = g
  landed_back f fs w s (Some us) g = g

  -- a body, and the way back
  back_run : (n : ℕ) (t : Site) (p : ℕ) (f : Frame) (frames : List Frame) (s : MachineState) (o : Outcome (Unit {0})) → slice_get code.places p ≡ Some (place t i.Leave) → Reaches code s (arrive (λ (u : Unit {0}) w'. at p [] (f ∷ frames) w') (f ∷ frames) o) → Reaches code s (arrive (λ us w'. at f.back (us ++ f.cells) frames w') frames (come_back f.first f.count f.locals o))
  back_run n t p f frames s (WentOn u w) has g =
      landed_back f frames w s (yielded f.first f.count w.store.locals) (reaches_on g (leave_run code n t p [] f frames w has))
  back_run n t p f frames s (Left Returned w) has g = landed_back f frames w s (yielded f.first f.count w.store.locals) g
  back_run n t p f frames s (Left _ w) has g = g

  module _ (n : ℕ) (h : Calls) (ok : CallsRun code n h) where
    -- a section from its beginning on
    section_run : (s : TypedScope) → Sited code (first_site s) → (body : Block) (first p : ℕ) → HasAt code.places p (section_code s first body) → HasAt code.prints first (block_prints body) → (f : Frame) (frames : List Frame) (w : RunState) → Within code n w → Reaches code (at p [] (f ∷ frames) w) (arrive (λ us w'. at f.back (us ++ f.cells) frames w') frames (come_back f.first f.count f.locals (effects h n body w)))
    section_run s sited body first p lies prints f frames w in_ =
        let b : List Placed = block_code (first_site s) first body in
        let last : List Placed = place (first_site s) i.Leave ∷ [] in
        back_run n (first_site s) (p + length b) f frames (at p [] (f ∷ frames) w) (effects h n body w) (has_back code.places p b last lies).0
        ((block_runs code n h ok (first_site s) sited first body prints).by p [] (f ∷ frames) w refl (has_front code.places p b last lies) in_)

    -- An instruction that enters a section leads to what the section does. The meaning may have another store by then, in which the section begins.
    enclosed_leads : (s : TypedScope) → Sited code (first_site s) → (body : Block) (first : ℕ) (e : EntryPoint) → HasAt code.places e.place (section_code s first body) → HasAt code.prints first (block_prints body) → (called : Called) (vs : List Value) (q : ℕ) (cells0 cells : List Value) (frames : List Frame) (w : RunState) (u : Store) → Within code n (record w { store = u }) → Leads code w (enter e called vs cells (core_at q cells0 frames w.store) u) (arrive (λ us w'. at (q + 1) (us ++ cells) frames w') frames (enclosed e.given e.others (effects h n body) vs e.yielding (record w { store = u })))
    enclosed_leads s sited body first e lies prints called vs q cells0 cells frames w u in_ =
        let w1 : RunState = record w { store = u } in
        needed_leads code (opened e.given e.others vs) (λ variables. enter_with variables e called cells (core_at q cells0 frames w.store) u) w w1 (λ us w'. at (q + 1) (us ++ cells) frames w') frames (λ ls w. come_back (length e.given) e.yielding w.store.locals (effects h n body (with_locals ls w))) (λ ls known.
        let f : Frame = record { back = q + 1; cells = cells; locals = u.locals; first = length e.given; count = e.yielding; called = called } in
        let v : Store = record u { locals = ls } in
        let lasts : Lasts u v = (refl, λ j. j) in
        onwards (section_run s sited body first e.place lies prints f frames (with_locals ls w1) (within_store {w = w1} {s = v} in_ lasts)))

  -- ## Calls and events of a program

  module _ (p : Program) (linked : Linked code p) where
    routine_leads : (n : ℕ) → CallsRun code n (calls p n) → (l : Line) (routine cell count : ℕ) (vs : List Value) (o : Option Routine) (e : Option EntryPoint) → slice_get code.routines routine ≡ e → RoutineAt code p o e → (q : ℕ) (cells : List Value) (frames : List Frame) (w : RunState) → length cells ≡ cell → Within code n w → Leads code w (act code l (i.Call routine cell) (core_at q (onto vs cells) frames w.store)) (arrive (λ us w'. at (q + 1) (us ++ cells) frames w') frames (routine_called o (calls p n) n vs count w))
    routine_leads n ok l routine cell count vs None e known link q cells frames w high in_ = whatever
    routine_leads n ok l routine cell count vs (Some r) None known link q cells frames w high in_ = absurd link
    routine_leads n ok l routine cell count vs (Some r) (Some e) known link q cells frames w high in_ = sides (count == length r.yielding) refl
      where
        core : Core
        core = core_at q (onto vs cells) frames w.store

        entry : EntryPoint
        entry = routine_entry link.begins r

        k : List Value → RunState → MachineState
        k us w' = at (q + 1) (us ++ cells) frames w'

        -- the instruction finds the section, and as many values as it takes
        enters : length r.given ≡ length vs → act code l (i.Call routine cell) core ≡ enter entry (ARoutine routine) vs cells core w.store
        enters many =
            ap (λ x. fit x (λ (e : EntryPoint). with_block (length e.given) cell (onto vs cells) (λ us below. enter e (ARoutine routine) us below core w.store))) (known ∙ ap Some link.is)
            ∙ block_takes vs cells (length r.given) cell (λ us below. enter entry (ARoutine routine) us below core w.store) many high

        opens : (b : Option (List Value)) → opened r.given (r.yielding ++ r.others) vs ≡ b → Leads code w (act code l (i.Call routine cell) core) (arrive k frames (outcome_then (needed b w) (λ ls w. come_back (length r.given) (length r.yielding) w.store.locals (effects (calls p n) n r.body (with_locals ls w)))))
        opens None t = whatever
        opens (Some ls) t =
            subst (λ m. Leads code w m (arrive k frames (outcome_then (needed (Some ls) w) (λ ls w. come_back (length r.given) (length r.yielding) w.store.locals (effects (calls p n) n r.body (with_locals ls w)))))) (sym (enters (opened_many r.given (r.yielding ++ r.others) vs ls t)))
            (subst (λ b. Leads code w (enter entry (ARoutine routine) vs cells core w.store) (arrive k frames (outcome_then (needed b w) (λ ls w. come_back (length r.given) (length r.yielding) w.store.locals (effects (calls p n) n r.body (with_locals ls w)))))) t
            (enclosed_leads n (calls p n) ok (routine_scope p r) linked.setting r.body link.first entry link.lies link.prints (ARoutine routine) vs q (onto vs cells) cells frames w w.store (within_store {w = w} {s = w.store} in_ (refl, λ j. j))))

        sides : (b : Bool) → (count == length r.yielding) ≡ b → Leads code w (act code l (i.Call routine cell) core) (arrive k frames (if b then enclosed r.given (r.yielding ++ r.others) (effects (calls p n) n r.body) vs count w else Left Wrong w))
        sides false t = whatever
        sides true t =
            subst (λ c. Leads code w (act code l (i.Call routine cell) core) (arrive k frames (enclosed r.given (r.yielding ++ r.others) (effects (calls p n) n r.body) vs c w))) (sym (eqb-true count (length r.yielding) t))
            (opens (opened r.given (r.yielding ++ r.others) vs) refl)

    -- an event yields nothing
    nothing_yielded : (w : RunState) (m : Moved) (q : ℕ) (cells : List Value) (frames : List Frame) (o : Outcome (List Value)) → IfWentOn (AsWanted 0) o → Leads code w m (arrive (λ us w'. at q (us ++ cells) frames w') frames o) → Leads code w m (arrive (λ (u : Unit {0}) w'. at q cells frames w') frames (then_nothing o))
    nothing_yielded w m q cells frames (WentOn [] w') such g = g
    nothing_yielded w m q cells frames (WentOn (v ∷ us) w') such g = absurd (omega (arith, such))
    nothing_yielded w m q cells frames (Left e w') such g = g

    -- a section of an event begins
    begins_leads : (n : ℕ) → CallsRun code n (calls p n) → (cell : ℕ) (b : Beginning) (o : Option Event) (e : Option EntryPoint) → slice_get code.events b.rank ≡ e → EventAt code p o e → (q : ℕ) (cells : List Value) (frames : List Frame) (w : RunState) → length cells ≡ cell → Within code n (record w { store = b.store }) → Leads code w (fit (slice_get code.events b.rank) (λ e. at_height cell cells (enter e (AnEvent b.rank) b.given cells (core_at q cells frames w.store) b.store))) (arrive (λ (u : Unit {0}) w'. at (q + 1) cells frames w') frames (event_routine o (calls p n) n b.given (record w { store = b.store })))
    begins_leads n ok cell b None e known link q cells frames w high in_ = whatever
    begins_leads n ok cell b (Some v) None known link q cells frames w high in_ = absurd link
    begins_leads n ok cell b (Some v) (Some e) known link q cells frames w high in_ =
        let w1 : RunState = record w { store = b.store } in
        let core : Core = core_at q cells frames w.store in
        let entry : EntryPoint = event_entry link.begins v in
        subst (λ m. Leads code w m (arrive (λ (u : Unit {0}) w'. at (q + 1) cells frames w') frames (event_routine (Some v) (calls p n) n b.given w1))) (sym (
        ap (λ x. fit x (λ (e : EntryPoint). at_height cell cells (enter e (AnEvent b.rank) b.given cells core b.store))) (known ∙ ap Some link.is)
        ∙ at_the_height cell cells (enter entry (AnEvent b.rank) b.given cells core b.store) high))
        (nothing_yielded w (enter entry (AnEvent b.rank) b.given cells core b.store) (q + 1) cells frames (enclosed v.given v.others (effects (calls p n) n v.body) b.given 0 w1)
        (enclosed_such v.given v.others (effects (calls p n) n v.body) b.given 0 w1)
        (enclosed_leads n (calls p n) ok (event_scope p v) linked.setting v.body link.first entry link.lies link.prints (AnEvent b.rank) b.given q cells cells frames w b.store in_))

    -- the program says the same once an event has begun, and each member of a set lives
    begun_within : (n : ℕ) (w : RunState) (c : Coming) (b : Beginning) → next_event w.store ≡ Some c → event_begun c ≡ Ok b → Within code n w → Within code n (record w { store = b.store })
    begun_within n w c b e f in_ =
        let came : ComingSame w.store c = subst (Where (ComingSame w.store)) e (event_same w.store) in
        let began : BeginningSame c.store b = subst (Only (BeginningSame c.store)) f (begun_same c) in
        within_store {w = w} {s = b.store} in_ (lasts_then w.store c.store b.store (lasts_so w.store c.store came) (lasts_so c.store b.store began))

    -- where no notice is pending the program would go wrong
    next_leads : {B : Type 0} (cell : ℕ) (core : Core) (o : Option Coming) (w : RunState) (k : B → RunState → MachineState) (frames : List Frame) (f : Coming → Part B) → ((c : Coming) → o ≡ Some c → Leads code w (take_event code cell c core) (arrive k frames (f c w))) → Leads code w (take_next code cell o core) (arrive k frames (outcome_then (needed o w) f))
    next_leads cell core None w k frames f h = whatever
    next_leads cell core (Some c) w k frames f h = h c refl

    -- the event that comes next; a fault has the line of its routine
    event_leads : (n : ℕ) → CallsRun code n (calls p n) → (l : Line) (cell q : ℕ) (cells : List Value) (frames : List Frame) (w : RunState) → length cells ≡ cell → Within code n w → Leads code w (act code l (i.TakeEvent cell) (core_at q cells frames w.store)) (arrive (λ (u : Unit {0}) w'. at (q + 1) cells frames w') frames (event_taken p.events (calls p n) n w))
    event_leads n ok l cell q cells frames w high in_ =
        let core : Core = core_at q cells frames w.store in
        let k : Unit {0} → RunState → MachineState = λ u w'. at (q + 1) cells frames w' in
        next_leads cell core (next_event w.store) w k frames (λ c. begin c (λ b. event_routine (slice_get p.events b.rank) (calls p n) n b.given)) (λ c came.
        did_leads code c.ranked.said.line (event_begun c) (λ b. fit (slice_get code.events b.rank) (λ e. at_height cell cells (enter e (AnEvent b.rank) b.given cells core b.store))) w k frames (λ b w. event_routine (slice_get p.events b.rank) (calls p n) n b.given (record w { store = b.store })) (λ b began.
        begins_leads n ok cell b (slice_get p.events b.rank) (slice_get code.events b.rank) refl (linked.events b.rank) q cells frames w high (begun_within n w c b came began in_)))

    -- each bound has one less for what is called
    pub calls_run : (n : ℕ) → CallsRun code n (calls p n)
    calls_run zero = record {
      by = λ u routine cell yielding vs. record { by = λ q cells frames w high has in_. out_run code {A = List Value} (place u (i.Call routine cell)) (core_at q (onto vs cells) frames w.store) frames w (λ us w'. at (q + 1) (us ++ cells) frames w') has.0 refl in_.ticks };
      such = λ routine yielding vs w. calls_such p 0 routine yielding vs w;
      event = λ m e l cell q cells frames w high in_. absurd (omega (arith, e));
    }
    calls_run (suc n) = record {
      by = λ u routine cell yielding vs. record {
        by = λ q cells frames w high has in_.
            tick_run code {A = List Value} (place u (i.Call routine cell)) (core_at q (onto vs cells) frames w.store) frames w (λ us w'. at (q + 1) (us ++ cells) frames w') (routine_called (slice_get p.routines routine) (calls p n) n vs yielding) has.0 refl (λ t e.
            routine_leads n (calls_run n) u.line routine cell yielding vs (slice_get p.routines routine) (slice_get code.routines routine) refl (linked.routines routine) q cells frames (ticked t w) high (within_ticked in_ e));
      };
      such = λ routine yielding vs w. calls_such p (suc n) routine yielding vs w;
      event = λ m e l cell q cells frames w high in_.
          let same_ : m ≡ n = omega (arith, e) in
          event_leads n (calls_run n) l cell q cells frames w high (subst (λ j. Within code j w) same_ in_);
    }
