-- What scheduling does, once the number of the notice is known.
use Rattle.std.specs.Prelude.{◌≡◌, ℕ, ◌<◌, Bool, true, false, List, [], ◌∷◌, ◌++◌, length, ℤ, int_lt, Some, Result, Ok, Err}
use Rattle.std.specs.List.{All}
use Rattle.ss_base.specs.Arithmetic.{plus_of}
use Rattle.ss_base.specs.Plain.{PlainLayout}
use Rattle.ss_base.specs.declared.fault.FaultKind.TheVariants.{PastTime}
use Rattle.ss_base.specs.declared.fault.Refused.{Refused}
use Rattle.ss_base.specs.declared.fault.Refused.TheVariants.{Fault, Memory}
use Rattle.ss_base.specs.declared.layout.RankKey.{RankKey}
use Rattle.ss_base.specs.declared.value.Value.{Value}
use Rattle.ss_world.specs.declared.ties.Tie.{Tie}
use Rattle.ss_world.specs.SortKey.{SortKey}
use Rattle.ss_world.specs.PendingList.{scheduled}
use Rattle.ss_world.specs.State.{modes_of}
use Rattle.ss_meaning.specs.Values.{Failure, Fails, if_ok, turned, due, unless_fault}
use Rattle.ss_meaning.specs.Store.{Notices, Store, with_pending}
use Rattle.ss_meaning.specs.Events.{Ranked, ranked_from, not_past}
use Rattle.ss_machine_world.specs.Seen.{Seen, IsAlwaysOk, with_seen}

-- ## Times

-- so many units from now
abbrev pub time_after : (units : ℤ) → Store → Result ℤ Failure
time_after units s = if_ok (due (plus_of s.world.time units)) (λ t. not_past t s)

-- ## Classes of notices

-- a class has the attribute that a key names
abbrev pub HasKeyField : PlainLayout → (class : ℕ) → RankKey → Type 0
HasKeyField l class key = key.field < length (modes_of l class)

-- a class is one of notices, with its rank among them and what the program says of it, and has the attributes that break its ties
pub record IsNoticeClass (e : Seen) (class : ℕ) : Type 0 where
  pub within : class < length e.heap.layout.classes
  pub ranked : Ranked
  pub is : ranked_from 0 e.notices class ≡ Some ranked
  pub fields : All (HasKeyField e.heap.layout class) ranked.said.ties

-- no attribute breaks ties of the notices of a class
abbrev pub IsUntied : List Notices → (class : ℕ) → Type 0
IsUntied es class = (r : Ranked) → ranked_from 0 es class ≡ Some r → r.said.ties ≡ []

-- ## Ties

-- a tie is added after others, or memory for it was refused
abbrev pub IsTied : Value → (high : Bool) → (old new : List Tie) → Result (Unit {0}) Refused → Type 0
IsTied v high old new (Ok u) = new ≡ old ++ record { value = v; high = high } ∷ []
IsTied v high old new (Err refused) = Unit {0}

-- the value that an operation finds is added after other ties, or there is a reason why not
abbrev pub HasAddedTie : (Store → Result Value Failure) → (high : Bool) → Seen → (old new : List Tie) → Result (Unit {0}) Refused → Type 0
HasAddedTie f high e old new (Ok u) = (v : Value) × (new ≡ old ++ record { value = v; high = high } ∷ []) × ((s : Store) → f (with_seen s e) ≡ Ok v)
HasAddedTie f high e old new (Err refused) = Unit {0}

-- ## Filing

-- an operation says whether it did what it does; if not, nothing has changed
abbrev pub IsDoneIf : (Store → Result Store Failure) → (is_done : Bool) → (old new : Seen) → Type 0
IsDoneIf f true old new = (s : Store) → f (with_seen s old) ≡ Ok (with_seen s new)
IsDoneIf f false old new = new ≡ old

-- what filing a notice does once its key is known
abbrev pub scheduled_known : SortKey → (notice : ℤ) → Store → Result Store Failure
scheduled_known key n s = unless_fault (int_lt key.time s.world.time) PastTime (turned (with_pending s) (due (scheduled key n s.world.pending)))

-- why a notice is not filed for a time: for the fault that is due to each key of this time, or none is
abbrev pub IsUnfiled : (time notice : ℤ) → Seen → Refused → Type 0
IsUnfiled t n e (Fault kind) = (key : SortKey) → key.time ≡ t → (s : Store) → scheduled_known key n (with_seen s e) ≡ Err (Fails kind)
IsUnfiled t n e Memory = (key : SortKey) → key.time ≡ t → IsAlwaysOk (scheduled_known key n) e
