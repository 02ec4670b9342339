-- What a program means. Read this file first, from its end, and then the others from Statements down.
--
-- `meaning program input n` is the report of a run with n ticks, and how the run ends: it ended, a fault at a line, it paused where a tick was
-- due and none was left, or it went wrong, which no well-typed program does. The meaning goes through the program's statements and knows
-- no jump, no stack and no link. A statement is a part (Parts): it takes a run state, which is the store, the report so far and the ticks that are
-- left, and goes on with a value or is left. The store (Store) has the variables and, in the world, everything else.
use Rattle.std.specs.Prelude.{ℕ, zero, suc, ◌==◌, Bool, ◌++◌, List, [], ◌∷◌, map, length, pos, Option, Some, None, slice_get, if◌then◌else◌}
use Rattle.std.specs.List.{flat_map}
use Rattle.ss_base.specs.declared.line.Line.{Line}
use Rattle.ss_base.specs.declared.fault.FaultKind.{FaultKind}
use Rattle.ss_base.specs.declared.value.Value.{Value}
use Rattle.ss_base.specs.declared.layout.Mode.{Mode}
use Rattle.ss_base.specs.declared.layout.Owner.TheVariants.{System}
use Rattle.ss_base.specs.declared.layout.Layout.{Layout}
use Rattle.ss_world.specs.State.{first_state, modes_of}
use Rattle.ss_world.specs.declared.ties.TieShape.{TieShape}
use Rattle.ss_world.specs.PendingList.{none_pending}
use Rattle.ss_program.specs.Program.{Routine, Event, Program}
use Rattle.ss_meaning.specs.Store.{Notices, Setting, World, Store, first_values, opened, yielded}
use Rattle.ss_meaning.specs.Histories.{no_histories, started}
use Rattle.ss_meaning.specs.Events.{Beginning, Coming, next_event, event_begun}
use Rattle.ss_meaning.specs.Parts.{RunState, Exit, Returned, Stopped, Faulted, OutOfTicks, Wrong, Outcome, WentOn, Left, Part, outcome_then, then_nothing, looked, needed, take_tick}
use Rattle.ss_meaning.specs.Statements.{Calls, effects}

-- ## Routines

-- a run state with other local variables
abbrev pub with_locals : List Value → RunState → RunState
with_locals ls w = record w { store = record w.store { locals = ls } }

-- after a routine: the values of so many variables from a number on, and the caller's own variables
abbrev pub go_back : (first count : ℕ) → List Value → Part (List Value)
go_back first count ls w = outcome_then (needed (yielded first count w.store.locals) w) (λ vs w. WentOn vs (with_locals ls w))

abbrev pub come_back : (first count : ℕ) → List Value → Outcome (Unit {0}) → Outcome (List Value)
come_back first count ls (WentOn u w) = go_back first count ls w
come_back first count ls (Left Returned w) = go_back first count ls w
come_back first count ls (Left e w) = Left e w

-- a body with variables of its own: those that take the values that are given, and others; afterwards the values of the first so
-- many of the others
abbrev pub enclosed : (given others : List Mode) → (body : Part (Unit {0})) → List Value → (count : ℕ) → Part (List Value)
enclosed given others body vs count w =
    outcome_then (needed (opened given others vs) w) (λ ls w. come_back (length given) count w.store.locals (body (with_locals ls w)))

-- a routine yields as many values as it says
abbrev pub routine_called : Option Routine → Calls → ℕ → List Value → (yielding : ℕ) → Part (List Value)
routine_called None h n vs count w = Left Wrong w
routine_called (Some r) h n vs count w =
    if count == length r.yielding then enclosed r.given (r.yielding ++ r.others) (effects h n r.body) vs count w else Left Wrong w

-- ## Events

abbrev pub event_routine : Option Event → Calls → ℕ → List Value → Part (Unit {0})
event_routine None h n vs w = Left Wrong w
event_routine (Some e) h n vs w = then_nothing (enclosed e.given e.others (effects h n e.body) vs 0 w)

-- an event begins, at the line of its routine, and then comes the body
abbrev pub begin : Coming → (Beginning → Part (Unit {0})) → Part (Unit {0})
begin c go w = outcome_then (looked c.ranked.said.line (event_begun c) w) (λ b w. go b (record w { store = b.store }))

abbrev pub event_taken : List Event → Calls → ℕ → Part (Unit {0})
event_taken es h n w =
    outcome_then (needed (next_event w.store) w) (λ c. begin c (λ b. event_routine (slice_get es b.rank) h n b.given))

-- ## The whole

-- a call takes a tick, as an event does; n bounds how deep they are nested, and the turns of each loop
abbrev pub calls : Program → ℕ → Calls
calls p zero = record { call = λ routine vs count. Left OutOfTicks; event = Left OutOfTicks }
calls p (suc n) = record {
  call = λ routine vs count. take_tick (routine_called (slice_get p.routines routine) (calls p n) n vs count);
  event = event_taken p.events (calls p n) n;
}

-- how a run ends
pub data Ending : Type 0 where
  Ended : Ending
  Fault : (kind : FaultKind) (line : Line) → Ending
  Paused : Ending
  WentWrong : Ending

abbrev pub ending_of : Exit → Ending
ending_of Returned = Ended
ending_of Stopped = Ended
ending_of (Faulted kind line) = Fault kind line
ending_of OutOfTicks = Paused
ending_of Wrong = WentWrong

-- a run: what it wrote, how it ended, and the ticks that it left
pub record Run : Type 0 where
  pub report : List ℕ
  pub ending : Ending
  pub ticks : ℕ

abbrev pub run_at : Ending → RunState → Run
run_at e w = record { report = w.report; ending = e; ticks = w.ticks }

abbrev pub run_of : Outcome (Unit {0}) → Run
run_of (WentOn u w) = run_at Ended w
run_of (Left e w) = run_at (ending_of e) w

-- what a program says of a class of notices, and of everything
abbrev pub said_of : Event → Notices
said_of e = record { class = e.class; ties = e.ties; line = e.line; given = length e.given; saved = e.saved }

abbrev pub setting_of : Program → Setting
setting_of p = record { disciplines = p.disciplines; notices = map said_of p.events; statistics = p.statistics }

-- the ties of a class as the event list takes them: what is no attribute of the class ties nothing
abbrev pub tie_shape : (high : Bool) → Option Mode → List TieShape
tie_shape high None = []
tie_shape high (Some mode) = (record { mode = mode; high = high }) ∷ []

abbrev pub tie_shapes : Layout → Event → List TieShape
tie_shapes l e = flat_map (λ key. tie_shape key.high (slice_get (modes_of l e.class) key.field)) e.ties

-- before MAIN: no entity, nothing pending, at the time 0
abbrev pub first_world : Program → List ℕ → World
first_world p input = record {
  setting = setting_of p;
  heap = first_state p.layout;
  time = pos 0;
  pending = none_pending (map (tie_shapes p.layout) p.events);
  histories = no_histories p.statistics;
  input = input;
}

-- the variables at first, and the histories of global variables and of the system's sets
abbrev pub first_store : Program → List ℕ → Store
first_store p input =
    started System (pos 0) (record { globals = first_values p.globals; locals = first_values p.locals; world = first_world p input })

abbrev pub first_run_state : Program → List ℕ → (ticks : ℕ) → RunState
first_run_state p input n = record { store = first_store p input; report = []; ticks = n }

-- what a program does with an input and n ticks
abbrev pub meaning : Program → (input : List ℕ) → (ticks : ℕ) → Run
meaning p input n = run_of (effects (calls p n) n p.main (first_run_state p input n))
