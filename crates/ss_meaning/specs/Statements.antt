-- Statements: what each does to the run state, in the order of the manual.
use Rattle.std.specs.Prelude.{ℕ, List, [], ◌∷◌, length, Result}
use Rattle.ss_base.specs.declared.line.Line.{Line}
use Rattle.ss_base.specs.declared.value.Value.{Value}
use Rattle.ss_base.specs.declared.layout.Mode.{Mode}
use Rattle.ss_input.specs.Words.{Given, value_given}
use Rattle.ss_base.specs.declared.words.Sign.{Sign}
use Rattle.ss_base.specs.declared.words.End.{End}
use Rattle.ss_program.specs.declared.statement.CountedClass.{CountedClass}
use Rattle.ss_program.specs.Program.{Expression, PrintItem, SetOwner, Place, InputTarget, Position, When, Restart, Statement, Let, Change, Call, Return, Stop, Read, Simulate, If, Loop, For, Find, Create, CreateEvery, Destroy, File, RemoveEnd, Remove, ScheduleNew, Schedule, Cancel, Reset, Print, Skip, Block, Done, Then}
use Rattle.ss_meaning.specs.Values.{Failure, if_ok, turned, due, sure, calculated, operator_of, printed, empty_lines}
use Rattle.ss_meaning.specs.Store.{Store}
use Rattle.ss_meaning.specs.Entities.{made_one, made_all, without}
use Rattle.ss_meaning.specs.Places.{held}
use Rattle.ss_meaning.specs.Sets.{filed_in, removed_from, removed_at}
use Rattle.ss_meaning.specs.Events.{made_notice, filed_notice, rescheduled, unscheduled, is_awaited}
use Rattle.ss_meaning.specs.Statistics.{reset}
use Rattle.ss_meaning.specs.Expressions.{value, values, shown_items, value_if_any, entity_value, member_value, owner_value, spot, filing, time_value, holds}
use Rattle.ss_meaning.specs.Parts.{Returned, Stopped, Wrong, WentOn, Left, Part, outcome_then, then_nothing, choose, look, change, get, write, send, Next, Again, Over, loop}
use Rattle.ss_meaning.specs.Loops.{GoesOn, IsFound, phrases, over, guarded}

-- ## Values that go to places

-- a place is resolved, a value comes, and is written
abbrev pub give_to : Line → Place → Part Value → Part (Unit {0})
give_to l t source w = outcome_then (look l (spot t) w) (λ p w. outcome_then (source w) (write l p))

-- each place is resolved and takes a value, in turn
abbrev pub give_each : Line → List Place → List Value → Part (Unit {0})
give_each l [] [] w = WentOn tt w
give_each l (t ∷ ts) (v ∷ vs) w = outcome_then (give_to l t (WentOn v) w) (λ _. give_each l ts vs)
give_each l _ _ w = Left Wrong w

-- ADD and SUBTRACT: the value, then the place, then what it held
abbrev pub change_by : Line → Sign → Place → Expression → Part (Unit {0})
change_by l sign t e w =
    outcome_then (look l (value e) w) (λ y w. outcome_then (look l (spot t) w) (λ p w.
    outcome_then (look l (λ s. if_ok (held p s) (λ x. calculated (operator_of sign) x y)) w) (write l p)))

-- ## Input and output

-- the value that the next word of the input is, and the store without the word
abbrev pub with_input : Store → Given Value → Value × Store
with_input s g = (g.value, record s { world = record s.world { input = g.rest } })

abbrev pub read_value : Mode → Store → Result (Value × Store) Failure
read_value mode s = turned (with_input s) (due (value_given mode s.world.input))

abbrev pub read_each : Line → List InputTarget → Part (Unit {0})
read_each l [] w = WentOn tt w
read_each l (t ∷ ts) w = outcome_then (give_to l t.place (get l (read_value t.mode)) w) (λ _. read_each l ts)

-- the items, and then the lines with them
abbrev pub print : Line → List PrintItem → List (List ℕ) → Part (Unit {0})
print l shown pictures w =
    outcome_then (look l (λ s. if_ok (shown_items shown s) (λ xs. sure (printed pictures xs))) w) send

-- ## Entities and sets

abbrev pub create_every : Line → List CountedClass → Part (Unit {0})
create_every l [] w = WentOn tt w
create_every l (c ∷ cs) w = outcome_then (change l (made_all c) w) (λ _. create_every l cs)

abbrev pub destroy : Line → (class : ℕ) → Expression → Part (Unit {0})
destroy l class e w = outcome_then (look l (value e) w) (λ x. change l (without class x))

-- the member, then the one beside it, then the owner
abbrev pub file : Line → (set : ℕ) → Expression → Position → SetOwner → Part (Unit {0})
file l set e position owner w =
    outcome_then (look l (member_value set e) w) (λ x w. outcome_then (look l (filing set position) w) (λ f w.
    outcome_then (look l (owner_value owner) w) (λ o. change l (filed_in f set x o))))

abbrev pub remove : Line → (set : ℕ) → Expression → SetOwner → Part (Unit {0})
remove l set e owner w =
    outcome_then (look l (member_value set e) w) (λ x w. outcome_then (look l (owner_value owner) w) (λ o. change l (removed_from set x o)))

abbrev pub remove_end : Line → End → (set : ℕ) → SetOwner → Part Value
remove_end l end set owner w = outcome_then (look l (owner_value owner) w) (λ o. get l (removed_at end set o))

-- ## Events

-- the place, the values, the time, the notice with its attributes; it is written, and then filed among those that are pending
abbrev pub schedule_new : Line → (class : ℕ) → Place → List Expression → When → Part (Unit {0})
schedule_new l class t given when w =
    outcome_then (look l (spot t) w) (λ p w. outcome_then (look l (values given) w) (λ vs w. outcome_then (look l (time_value when) w) (λ time w.
    outcome_then (get l (made_notice class vs time) w) (λ x w. outcome_then (write l p x w) (λ _. change l (filed_notice class x time))))))

-- the notice, the values, the time
abbrev pub schedule : Line → (class : ℕ) → Expression → List Expression → When → Part (Unit {0})
schedule l class e given when w =
    outcome_then (look l (entity_value class e) w) (λ x w. outcome_then (look l (values given) w) (λ vs w.
    outcome_then (look l (time_value when) w) (λ time. change l (rescheduled class x vs time))))

abbrev pub cancel : Line → (class : ℕ) → Expression → Part (Unit {0})
cancel l class e w = outcome_then (look l (value e) w) (λ x. change l (unscheduled class x))

-- whether another event is due
abbrev pub next_due : Part (Next (Unit {0}) (Unit {0}))
next_due w = choose (is_awaited w.store) (WentOn (Again tt)) (WentOn (Over tt)) w

abbrev pub event_turn : (event : Part (Unit {0})) → Unit {0} → Part (Next (Unit {0}) (Unit {0}))
event_turn event u w = outcome_then (event w) (λ _. next_due)

-- event after event, a tick for each, until none is pending
abbrev pub simulate : ℕ → (event : Part (Unit {0})) → Part (Unit {0})
simulate n event w = choose (is_awaited w.store) (loop n (event_turn event) tt) (WentOn tt) w

-- ## Statistics

abbrev pub restart_each : Line → List Restart → Part (Unit {0})
restart_each l [] w = WentOn tt w
restart_each l (r ∷ rs) w =
    outcome_then (outcome_then (look l (value_if_any r.of) w) (λ x. change l (reset r.statistic x))) (λ _. restart_each l rs)

-- ## Statements

-- what a call does, by the routine, the values that it is given, and how many it yields; and what the event does that comes next
pub record Calls : Type 0 where
  pub call : (routine : ℕ) → (given : List Value) → (yielding : ℕ) → Part (List Value)
  pub event : Part (Unit {0})

abbrev mutual
  -- what a statement does, where calls do what h says, and n bounds the turns of each loop
  pub effect : Calls → ℕ → Statement → Part (Unit {0})
  effect h n (Let l t e) w = give_to l t (look l (value e)) w
  effect h n (Change l sign t e) w = change_by l sign t e w
  effect h n (Call l routine given yielding) w =
      outcome_then (look l (values given) w) (λ vs w. outcome_then (h.call routine vs (length yielding) w) (give_each l yielding))
  effect h n Return w = Left Returned w
  effect h n Stop w = Left Stopped w
  effect h n (Read l targets) w = read_each l targets w
  effect h n Simulate w = simulate n h.event w
  effect h n (If l c a b) w = outcome_then (look l (holds c) w) (λ t. choose t (effects h n a) (effects h n b))
  effect h n (Loop l guards a) w = guarded n l guards (effects h n a) w
  effect h n (For l head ps a) w =
      then_nothing (over n l head (phrases l ps (λ w. outcome_then (effects h n a w) (λ _. WentOn GoesOn))) w)
  effect h n (Find l head ps a b) w =
      outcome_then (over n l head (phrases l ps (WentOn IsFound)) w) (λ t. choose t (effects h n a) (effects h n b))
  effect h n (Create l class t) w = give_to l t (get l (made_one class)) w
  effect h n (CreateEvery l classes) w = create_every l classes w
  effect h n (Destroy l class e) w = destroy l class e w
  effect h n (File l set e position owner) w = file l set e position owner w
  effect h n (RemoveEnd l end set t owner) w = give_to l t (remove_end l end set owner) w
  effect h n (Remove l set e owner) w = remove l set e owner w
  effect h n (ScheduleNew l class t given when) w = schedule_new l class t given when w
  effect h n (Schedule l class e given when) w = schedule l class e given when w
  effect h n (Cancel l class e) w = cancel l class e w
  effect h n (Reset l restarts) w = restart_each l restarts w
  effect h n (Print l shown_items pictures) w = print l shown_items pictures w
  effect h n (Skip l e) w = outcome_then (look l (λ s. if_ok (value e s) empty_lines) w) send

  -- one statement after another
  pub effects : Calls → ℕ → Block → Part (Unit {0})
  effects h n Done w = WentOn tt w
  effects h n (Then s rest) w = outcome_then (effect h n s w) (λ _. effects h n rest)
