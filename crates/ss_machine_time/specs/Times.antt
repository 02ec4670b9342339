-- What passes in time.
use Rattle.std.specs.Prelude.{◌≡◌, List, ℤ, pos, int_lt, ◌≤ℤ◌, Option, Some, None, Result, Ok, Err, IsOk, if◌then◌else◌}
use Rattle.std.specs.List.{All}
use Rattle.ss_base.specs.declared.fault.FaultKind.{FaultKind}
use Rattle.ss_base.specs.declared.fault.FaultKind.TheVariants.{PastTime}
use Rattle.ss_base.specs.declared.fault.Refused.{Refused}
use Rattle.ss_base.specs.declared.fault.Refused.TheVariants.{Fault, Memory}
use Rattle.ss_base.specs.declared.value.Value.{Value}
use Rattle.ss_program.specs.declared.sections.Subject.{Subject}
use Rattle.ss_world.specs.SortKey.{SortKey}
use Rattle.ss_world.specs.PendingNotice.{PendingNotice}
use Rattle.ss_world.specs.PendingList.{PendingList, scheduled, least_event, after_next}
use Rattle.ss_stats_histories.specs.Records.{Records, columns_of, why}
use Rattle.ss_stats_histories.specs.Store.{Column}
use Rattle.ss_stats_histories.specs.Histories.{all_noting}
use Rattle.ss_stats_histories.specs.declared.unnoted.Unnoted.{Unnoted}

-- the time, the notices that are pending, and the histories
pub record Times : Type 0 where
  pub time : ℤ
  pub pending : PendingList
  pub histories : Records

-- an entry has a time from this one on
abbrev pub IsNotBefore : (time : ℤ) → PendingNotice → Type 0
IsNotBefore t e = t ≤ℤ e.key.time

-- no notice is pending for a time that is past, and no history goes beyond the time
abbrev pub IsTimely : (time latest : ℤ) → List PendingNotice → Type 0
IsTimely t latest es = (pos 0 ≤ℤ t) × (latest ≤ℤ t) × All (IsNotBefore t) es

-- the histories as the meaning has them
abbrev pub columns : Times → List Column
columns t = columns_of t.histories.rows

-- times that are equal but for their histories, which are of equal statistics
abbrev pub IsAt : (old new : Times) → Type 0
IsAt old new = (new.time ≡ old.time) × (new.pending ≡ old.pending) × (new.histories.statistics ≡ old.histories.statistics)

-- nothing is pending, and nothing changes; or this notice comes next, and once it was taken out the time is its time
abbrev pub HasTakenNext : (old new : Times) → Option ℤ → Type 0
HasTakenNext old new None = (least_event old.pending ≡ None) × (new ≡ old)
HasTakenNext old new (Some x) = (least_event old.pending ≡ Some (new.time, x)) × (new ≡ record old { time = new.time; pending = after_next old.pending })

-- the list after a notice is scheduled under a key, whose time is not past, or the fault
abbrev pub placed : SortKey → (notice : ℤ) → Times → Result PendingList FaultKind
placed key n t = if int_lt key.time t.time then Err PastTime else scheduled key n t.pending

-- whether a notice may be scheduled for a time, whatever else its key says, or for which fault not
abbrev pub MaySchedule : (time notice : ℤ) → Times → Result (Unit {0}) FaultKind → Type 0
MaySchedule t n at (Ok u) = (key : SortKey) → key.time ≡ t → IsOk (placed key n at)
MaySchedule t n at (Err kind) = (key : SortKey) → key.time ≡ t → placed key n at ≡ Err kind

-- a notice is scheduled; or there is a fault, or no memory where there is none, and nothing changes
abbrev pub HasScheduled : SortKey → (notice : ℤ) → (old new : Times) → Result (Unit {0}) Refused → Type 0
HasScheduled key n old new (Ok u) = (placed key n old ≡ Ok new.pending) × (new ≡ record old { pending = new.pending })
HasScheduled key n old new (Err (Fault kind)) = (placed key n old ≡ Err kind) × (new ≡ old)
HasScheduled key n old new (Err Memory) = IsOk (placed key n old) × (new ≡ old)

-- histories note a value, or they don't, and nothing changes
abbrev pub IsNoted : Subject → (entity : ℤ) → Value → (old new : Times) → Result (Unit {0}) Unnoted → Type 0
IsNoted subject x v old new (Ok u) = (all_noting subject x old.time v old.histories.statistics (columns old) ≡ Ok (columns new)) × IsAt old new
IsNoted subject x v old new (Err t) = (all_noting subject x old.time v old.histories.statistics (columns old) ≡ Err (why t)) × (new ≡ old)
