-- What a notice is given: its first attributes, from cells, and its time.
use Rattle.std.specs.Prelude.{◌≡◌, ℕ, ◌+◌, ◌<◌, ◌≤◌, ◌^◌, Bool, false, List, length, ℤ, Some, Result, Ok, Err, slice_get, if◌then◌else◌}
use Rattle.ss_base.specs.declared.fault.FaultKind.{FaultKind}
use Rattle.ss_base.specs.declared.fault.FaultKind.TheVariants.{AlreadyScheduled}
use Rattle.ss_base.specs.declared.fault.Refused.{Refused}
use Rattle.ss_base.specs.declared.fault.Refused.TheVariants.{Fault, Memory}
use Rattle.ss_base.specs.declared.layout.ClassKind.TheVariants.{Notice}
use Rattle.ss_base.specs.declared.layout.Mode.{Mode}
use Rattle.ss_base.specs.declared.value.Value.{Value}
use Rattle.ss_base.specs.declared.value.Value.TheVariants.{Whole}
use Rattle.ss_base.specs.Layout.{mode_of}
use Rattle.ss_world.specs.PendingList.{is_pending}
use Rattle.ss_world.specs.State.{and_then, assigned, known_in, value_in}
use Rattle.ss_program.specs.declared.sections.Subject.TheVariants.{OfAttribute}
use Rattle.ss_program.specs.Program.{Program}
use Rattle.ss_program.specs.WellTyped.{IsWellTyped, field_mode, kind_of_class}
use Rattle.ss_meaning.specs.Values.{Failure, Fails, if_ok}
use Rattle.ss_meaning.specs.Store.{Store}
use Rattle.ss_meaning.specs.Entities.{made_one}
use Rattle.ss_meaning.specs.Events.{made_notice, prepared, filed_notice}
use Rattle.ss_meaning.specs.Fitting.{AreOfModes, IsFittingStore}
use Rattle.ss_code_instructions.specs.Facts.{watch}
use Rattle.ss_machine_frames.specs.Rows.{TwoRows, IsValueAt}
use Rattle.ss_machine_frames.specs.Holding.{AreValuesAt}
use Rattle.ss_machine_world.specs.Seen.{Seen, IsAlwaysOk, with_seen}

-- ## What an operation does in one store

abbrev pub IsSettledIn : Store → (Store → Result Store Failure) → (old new : Seen) → Result (Unit {0}) FaultKind → Type 0
IsSettledIn s f old new (Ok u) = f (with_seen s old) ≡ Ok (with_seen s new)
IsSettledIn s f old new (Err kind) = f (with_seen s old) ≡ Err (Fails kind)

-- out of memory only where no fault is due
abbrev pub IsSettledWithMemory : Store → (Store → Result Store Failure) → (old new : Seen) → Result (Unit {0}) Refused → Type 0
IsSettledWithMemory s f old new (Ok u) = f (with_seen s old) ≡ Ok (with_seen s new)
IsSettledWithMemory s f old new (Err (Fault kind)) = f (with_seen s old) ≡ Err (Fails kind)
IsSettledWithMemory s f old new (Err Memory) = (kind : FaultKind) → f (with_seen s old) ≡ Err (Fails kind) → ⊥

-- a notice is made, which is the answer; out of memory only where an entity may be created
abbrev pub IsNoticeMade : Store → (class : ℕ) → List Value → (time : ℤ) → (old new : Seen) → Result ℤ Refused → Type 0
IsNoticeMade s class vs t old new (Ok n) = made_notice class vs t (with_seen s old) ≡ Ok (Whole n, with_seen s new)
IsNoticeMade s class vs t old new (Err (Fault kind)) = made_notice class vs t (with_seen s old) ≡ Err (Fails kind)
IsNoticeMade s class vs t old new (Err Memory) = IsAlwaysOk (made_one class) old

-- a number, or why there is none
abbrev pub number_or : (number : ℤ) → Result (Unit {0}) FaultKind → Result ℤ Refused
number_or n (Ok u) = Ok n
number_or n (Err kind) = Err (Fault kind)

-- a notice that there is may be scheduled where it is not pending
abbrev pub unpended : (class : ℕ) → (notice : ℤ) → Seen → Result (Unit {0}) FaultKind
unpended class n e = and_then (known_in e.heap class n) (λ u. if is_pending n e.pending.entries then Err AlreadyScheduled else Ok tt)

-- a notice gets values and its time, and is filed
abbrev pub refiled : (class : ℕ) → (x : Value) → List Value → (time : ℤ) → Store → Result Store Failure
refiled class x given t s = if_ok (prepared class x given t s) (filed_notice class x t)

-- ## One attribute

-- an attribute is assigned a value, or there is a fault and nothing changes
abbrev pub HasSetField : (class field : ℕ) → (notice : ℤ) → Value → (old new : Seen) → Result (Unit {0}) FaultKind → Type 0
HasSetField class field n v old new (Ok u) = (assigned old.heap class field n v ≡ Ok new.heap) × (new.heap.layout ≡ old.heap.layout) × (new ≡ record old { heap = new.heap })
HasSetField class field n v old new (Err kind) = (assigned old.heap class field n v ≡ Err kind) × (new ≡ old)

-- and what is read of it afterwards
abbrev pub IsReadBack : (class field : ℕ) → (notice : ℤ) → Value → Seen → Result (Unit {0}) FaultKind → Type 0
IsReadBack class field n v new (Ok u) = value_in new.heap class field n ≡ Ok v
IsReadBack class field n v new (Err kind) = Unit {0}

-- a store of a well-typed program has an attribute of this mode, and the value is of it
pub record IsSuitable (class field : ℕ) (noted : Bool) (v : Value) (e : Seen) : Type 0 where
  pub program : Program
  pub typed : IsWellTyped program
  pub modes : List Mode
  pub store : Store
  pub fits : IsFittingStore program modes (with_seen store e)
  pub mode : Mode
  pub field_is : field_mode program class field ≡ Some mode
  pub right : mode_of v ≡ mode
  pub reported : noted ≡ false → watch e.statistics (OfAttribute class field) ≡ false

-- the value lies at a place
pub record HasGivenOne (class field : ℕ) (noted : Bool) (place : ℕ) (rows : TwoRows) (e : Seen) : Type 0 where
  pub value : Value
  pub suits : IsSuitable class field noted value e
  pub lies : IsValueAt rows place value
  pub within : place < length rows.numbers
  pub small : place < 2 ^ 64

-- ## All of them

-- the values of the first attributes lie from a place on
pub record HasGivenValues (class : ℕ) (noted : Bool) (from given : ℕ) (rows : TwoRows) (e : Seen) : Type 0 where
  pub program : Program
  pub typed : IsWellTyped program
  pub modes : List Mode
  pub store : Store
  pub fits : IsFittingStore program modes (with_seen store e)
  pub notice : kind_of_class program class ≡ Some Notice
  pub values : List Value
  pub kinds : List Mode
  pub hold : AreOfModes values kinds
  pub fields : (i : ℕ) (m : Mode) → slice_get kinds i ≡ Some m → field_mode program class i ≡ Some m
  pub many : length values ≡ given
  pub lie : AreValuesAt rows from values
  pub within : from + given ≤ length rows.numbers
  pub small : from + given ≤ 2 ^ 64
  pub reported : noted ≡ false → (field : ℕ) → field < given → watch e.statistics (OfAttribute class field) ≡ false
