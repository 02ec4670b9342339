-- How an event begins: the attributes of its notice go where its frame begins, and the notice is saved in a variable or goes.
use Rattle.std.specs.Prelude.{◌≡◌, ℕ, suc, ◌+◌, ◌<◌, ◌^◌, List, [], ◌∷◌, length, map, ℤ, pos, true, slice_get, IfSome, Option, Some, None, Result, Ok, Err}
use Rattle.ss_base.specs.declared.fault.FaultKind.{FaultKind}
use Rattle.ss_base.specs.declared.layout.Mode.{Mode}
use Rattle.ss_base.specs.declared.line.Line.{Line}
use Rattle.ss_base.specs.declared.value.Value.{Value}
use Rattle.ss_base.specs.declared.value.Value.TheVariants.{Whole}
use Rattle.ss_base.specs.Layout.{mode_of}
use Rattle.ss_world.specs.State.{State, value_in}
use Rattle.ss_program.specs.declared.sections.Subject.TheVariants.{OfVariable}
use Rattle.ss_meaning.specs.Entities.{gone, is_single}
use Rattle.ss_meaning.specs.Events.{Coming, ranked_from, next_event}
use Rattle.ss_meaning.specs.Fitting.{living}
use Rattle.ss_meaning.specs.Histories.{noted}
use Rattle.ss_meaning.specs.Store.{Notices}
use Rattle.ss_code_instructions.specs.declared.instruction.Instruction.TheVariants.{TakeEvent}
use Rattle.ss_code_instructions.specs.States.{Core}
use Rattle.ss_machine_frames.specs.Rows.{TwoRows, with_number, with_value, AreAlike}
use Rattle.ss_machine_frames.specs.Holding.{AreValuesAt}
use Rattle.ss_machine_world.specs.Seen.{Seen, HasChanged, with_seen}
use Rattle.ss_machine_instructions.specs.declared.flow.Ending.TheVariants.{NoMemory}
use Rattle.ss_machine_instructions.specs.declared.flow.Here.{Here}
use Rattle.ss_machine_instructions.specs.declared.state.State.{State as Machine}
use Rattle.ss_machine_instructions.specs.Doing.{Compiled, IsReadyFor}
use Rattle.ss_machine_instructions.specs.Ways.{faulted}

-- ## The attributes

-- an attribute is read and goes to a place, or there is a fault
abbrev pub IsReadTo : State → (class field : ℕ) → (notice : ℤ) → (mode : Mode) → (place : ℕ) → (old new : TwoRows) → Result (Unit {0}) FaultKind → Type 0
IsReadTo h class field n m i old new (Ok u) = (v : Value) × (value_in h class field n ≡ Ok v) × (mode_of v ≡ m) × (new ≡ with_value old i v)
IsReadTo h class field n m i old new (Err kind) = (value_in h class field n ≡ Err kind) × (new ≡ old)

-- attributes of these values, from the first on
abbrev pub AreRead : State → (class field : ℕ) → (notice : ℤ) → List Value → Type 0
AreRead h class field n [] = Unit {0}
AreRead h class field n (v ∷ vs) = (value_in h class field n ≡ Ok v) × AreRead h class (field + 1) n vs

-- they have gone to places from one on, and nothing else has changed
pub record AreReceived (h : State) (class : ℕ) (notice : ℤ) (modes : List Mode) (from : ℕ) (old new : TwoRows) : Type 0 where
  pub values : List Value
  pub read : AreRead h class 0 notice values
  pub hold : map mode_of values ≡ modes
  pub lie : AreValuesAt new from values
  pub below : AreAlike old new 0 from
  pub above : (to : ℕ) → AreAlike old new (from + length modes) to
  pub long : length new.numbers ≡ length old.numbers
  pub even : length new.texts ≡ length old.texts

abbrev pub AreReceivedIf : State → (class : ℕ) → (notice : ℤ) → List Mode → (from : ℕ) → (old new : TwoRows) → Result (Unit {0}) FaultKind → Type 0
AreReceivedIf h class n ms i old new (Ok u) = AreReceived h class n ms i old new
AreReceivedIf h class n ms i old new (Err kind) = (field : ℕ) × (field < length ms) × (value_in h class field n ≡ Err kind)

-- ## The notice

-- one of this rank and class can be let go: the variable that it is saved in, if it is, lies below a limit
pub record CanLetGo (e : Seen) (r k limit : ℕ) : Type 0 where
  pub rank : r < length e.notices
  pub class : k < length e.heap.layout.classes
  pub single : is_single (slice_get e.heap.layout.classes k) ≡ true
  pub saved : (said : Notices) → slice_get e.notices r ≡ Some said → IfSome said.saved (λ v. v < limit)

-- it is saved in a variable, which is noted, or it goes
abbrev pub HasLetGo : (saved : Option ℕ) → (class : ℕ) → (notice : ℤ) → (old new : Machine) → Result (Unit {0}) FaultKind → Type 0
HasLetGo (Some k) class n old new r =
    HasChanged (noted (OfVariable k) (pos 0) (Whole n)) old.world new.world r × (new ≡ record old { rows = with_number old.rows k n; world = new.world })
HasLetGo None class n old new r = HasChanged (gone class (Whole n)) old.world new.world r × (new ≡ record old { world = new.world })

-- that is done once the attributes are read
abbrev pub HasLetGoThen : (said : Notices) → (class : ℕ) → (notice : ℤ) → (mid new : Machine) → (read answer : Result (Unit {0}) FaultKind) → Type 0
HasLetGoThen said class n mid new (Ok u) r = HasLetGo said.saved class n mid new r
HasLetGoThen said class n mid new (Err kind) r = (r ≡ Err kind) × (new ≡ mid)

pub record HasReceived (said : Notices) (class : ℕ) (notice : ℤ) (modes : List Mode) (from : ℕ) (old new : Machine) (answer : Result (Unit {0}) FaultKind) : Type 0 where
  pub rows : TwoRows
  pub read : Result (Unit {0}) FaultKind
  pub read_is : length old.rows.texts ≡ length old.rows.numbers → AreReceivedIf old.world.heap class notice modes from old.rows rows read
  pub lets_go : HasLetGoThen said class notice (record old { rows = rows }) new read answer

-- There is no memory for the frame of its event: there is a fault where one is due as it lets its notice go, with the line of its routine. Only where none is,
-- it is out of memory, and no tick is taken.
abbrev pub IsUnbegunAfter : Line → (mid new : Machine) → Result (Unit {0}) FaultKind → Type 0
IsUnbegunAfter l mid new (Ok u) = new ≡ record mid { ticks = mid.ticks + 1; ending = NoMemory }
IsUnbegunAfter l mid new (Err kind) = new ≡ faulted kind (record mid { fault_line = Some l })

pub record IsUnbegun (said : Notices) (class : ℕ) (notice : ℤ) (old new : Machine) : Type 0 where
  pub mid : Machine
  pub answer : Result (Unit {0}) FaultKind
  pub lets_go : HasLetGo said.saved class notice old mid answer
  pub is : IsUnbegunAfter said.line mid new answer

-- ## The event

-- A tick was taken, and this notice of this class was taken out, which comes next in the definition. The machine has changed in nothing else.
pub record IsNextEvent (w : Compiled) (c : Core) (here : Here) (s : Machine) (cell : ℕ) (notice : ℤ) (class : ℕ) : Type 0 where
  pub before : Machine
  pub ready : IsReadyFor w c here before (TakeEvent cell)
  pub left : before.ticks ≡ suc s.ticks
  pub few : before.ticks < 2 ^ 64
  pub is : s ≡ record before { ticks = s.ticks; world = s.world }
  pub coming : Coming
  pub next : next_event c.store ≡ Some coming
  pub number : coming.notice ≡ Whole notice
  pub of : coming.ranked.said.class ≡ class
  pub store : coming.store ≡ with_seen c.store s.world
  pub place : ranked_from 0 s.world.notices class ≡ Some coming.ranked
  pub lives : living s.world.heap notice ≡ Some class
