-- What is seen of a world, and what an operation does to it.
use Rattle.std.specs.Prelude.{◌≡◌, List, ℤ, Result, Ok, Err, IsOk}
use Rattle.ss_base.specs.declared.fault.FaultKind.{FaultKind}
use Rattle.ss_base.specs.declared.fault.Refused.{Refused}
use Rattle.ss_base.specs.declared.fault.Refused.TheVariants.{Fault, Memory}
use Rattle.ss_base.specs.declared.layout.Discipline.{Discipline}
use Rattle.ss_base.specs.declared.value.Value.{Value}
use Rattle.ss_base.specs.declared.value.Value.TheVariants.{Whole}
use Rattle.ss_machine_time.specs.Records.{Rows, columns_of}
use Rattle.ss_world.specs.State.{State}
use Rattle.ss_world.specs.PendingList.{PendingList}
use Rattle.ss_meaning.specs.Values.{Failure, Fails, TypeError, turned, due}
use Rattle.ss_meaning.specs.Store.{Notices, Store}
use Rattle.ss_program.specs.declared.sections.Statistic.{Statistic}

-- what a program says of each set, of each class of notices and of statistics, the entities, the time, the notices that are pending, and the histories of
-- each statistic
pub record Seen : Type 0 where
  pub disciplines : List Discipline
  pub notices : List Notices
  pub statistics : List Statistic
  pub heap : State
  pub time : ℤ
  pub pending : PendingList
  pub histories : List Rows

-- a store with all of that, and the histories as the meaning has them
abbrev pub with_seen : Store → Seen → Store
with_seen s e = record s {
  world = record {
    setting = record { disciplines = e.disciplines; notices = e.notices; statistics = e.statistics };
    heap = e.heap;
    time = e.time;
    pending = e.pending;
    histories = columns_of e.histories;
    input = s.world.input;
  };
}

-- ## What an operation of the meaning does

-- an operation gives something, or a fault. In a well-typed program each does, and of one that doesn't nothing is said
abbrev pub IsRight : {A : Type 0} → Result A Failure → Type 0
IsRight r = r ≡ Err TypeError → ⊥

-- an operation looks: in each store with what is seen it has this answer
abbrev pub HasAnswer : {A : Type 0} → (Store → Result A Failure) → Seen → Result A FaultKind → Type 0
HasAnswer f e answer = (s : Store) → IsRight (f (with_seen s e)) → f (with_seen s e) ≡ due answer

-- an operation changes what is seen, or has a fault and changes nothing, in each store of which something holds
abbrev pub HasChangedWhere : (Store → Type 0) → (Store → Result Store Failure) → (old new : Seen) → Result (Unit {0}) FaultKind → Type 0
HasChangedWhere P f old new (Ok u) = (s : Store) → P (with_seen s old) → f (with_seen s old) ≡ Ok (with_seen s new)
HasChangedWhere P f old new (Err kind) = ((s : Store) → P (with_seen s old) → f (with_seen s old) ≡ Err (Fails kind)) × (new ≡ old)

-- and that in each store
abbrev pub HasChanged : (Store → Result Store Failure) → (old new : Seen) → Result (Unit {0}) FaultKind → Type 0
HasChanged f old new r = HasChangedWhere (λ s. IsRight (f s)) f old new r

-- no failure is due to an operation: it goes well in each store with what is seen
abbrev pub IsAlwaysOk : {A : Type 0} → (Store → Result A Failure) → Seen → Type 0
IsAlwaysOk f e = (s : Store) → IsOk (f (with_seen s e))

-- an operation that needs memory changes what is seen and gives a number, or has a fault and changes nothing. It is out of memory only where
-- no failure is due, and then it changes nothing.
abbrev pub HasMade : (Store → Result (Value × Store) Failure) → (old new : Seen) → Result ℤ Refused → Type 0
HasMade f old new (Ok n) = (s : Store) → f (with_seen s old) ≡ Ok (Whole n, with_seen s new)
HasMade f old new (Err (Fault kind)) = ((s : Store) → f (with_seen s old) ≡ Err (Fails kind)) × (new ≡ old)
HasMade f old new (Err Memory) = IsAlwaysOk f old × (new ≡ old)

-- and one that gives nothing
abbrev pub HasChangedWithMemory : (Store → Result Store Failure) → (old new : Seen) → Result (Unit {0}) Refused → Type 0
HasChangedWithMemory f old new (Ok u) = (s : Store) → f (with_seen s old) ≡ Ok (with_seen s new)
HasChangedWithMemory f old new (Err (Fault kind)) = ((s : Store) → f (with_seen s old) ≡ Err (Fails kind)) × (new ≡ old)
HasChangedWithMemory f old new (Err Memory) = IsAlwaysOk f old × (new ≡ old)

-- ## What an operation on the entities does

-- it changes the entities, or has a fault and changes nothing
abbrev pub HasRearranged : (State → Result State FaultKind) → (old new : Seen) → Result (Unit {0}) FaultKind → Type 0
HasRearranged f old new (Ok u) = (f old.heap ≡ Ok new.heap) × (new ≡ record old { heap = new.heap })
HasRearranged f old new (Err kind) = (f old.heap ≡ Err kind) × (new ≡ old)

-- ## Answers

-- a number as a value
abbrev pub as_value : Result ℤ FaultKind → Result Value FaultKind
as_value (Ok n) = Ok (Whole n)
as_value (Err kind) = Err kind

-- a number that was looked at
abbrev pub number_if : (number : ℤ) → Result (Unit {0}) FaultKind → Result ℤ FaultKind
number_if n (Ok u) = Ok n
number_if n (Err kind) = Err kind

-- whether an operation goes well, or else its failure
abbrev pub without_value : {A : Type 0} → (Store → Result A Failure) → Store → Result (Unit {0}) Failure
without_value f s = turned (λ _. tt) (f s)
