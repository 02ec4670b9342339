-- What passes in time, as a world has it, and as the meaning has it.
use Rattle.std.proofs.Common.{◌≡◌, ℤ, Bool, true, false, Option, Some, None, Ok, Err, refl, ap}
use Rattle.std.specs.Prelude.{int_lt, IsOk, Result as OkOr, if◌then◌else◌}
use Rattle.ss_base.specs.declared.fault.FaultKind.{FaultKind}
use Rattle.ss_base.specs.declared.fault.FaultKind.TheVariants.{PastTime}
use Rattle.ss_base.specs.declared.fault.Refused.{Refused}
use Rattle.ss_base.specs.declared.fault.Refused.TheVariants.{Fault, Memory}
use Rattle.ss_world.specs.SortKey.{SortKey}
use Rattle.ss_world.specs.PendingList.{PendingList, scheduled}
use Rattle.ss_meaning.specs.Values.{Fails, turned, due, unless_fault}
use Rattle.ss_meaning.specs.Store.{Store, with_pending}
use Rattle.ss_meaning.specs.Events.{not_past}
use Rattle.ss_machine_time.specs.Times.{Times, HasScheduled, HasTakenNext}
use Rattle.ss_machine_world.specs.Seen.{Seen, IsRight}

-- a notice comes at a time
abbrev pub came : (t n : ℤ) → Option (ℤ × ℤ)
came t n = Some (t, n)

-- whether a time is past is never without an answer
pub not_past_right : (t : ℤ) (s : Store) → IsRight (not_past t s)
not_past_right t s = by (int_lt t s.world.time)
  where
    by : (b : Bool) → IsRight (unless_fault b PastTime (Ok t))
    by true e = cc
    by false e = cc

-- ## Scheduling under a key

abbrev pub placed_in : SortKey → (notice : ℤ) → Seen → OkOr PendingList FaultKind
placed_in key n e = if int_lt key.time e.time then Err PastTime else scheduled key n e.pending

module _ (past : Bool) (r : OkOr PendingList FaultKind) (s : Store) where
  pub known_well : IsOk (if past then Err PastTime else r) → IsOk (unless_fault past PastTime (turned (with_pending s) (due r)))
  known_well ok = by past r ok
    where
      by : (b : Bool) (r : OkOr PendingList FaultKind) → IsOk (if b then Err PastTime else r) → IsOk (unless_fault b PastTime (turned (with_pending s) (due r)))
      by true r ok = absurd cc
      by false (Ok p) ok = refl
      by false (Err k) ok = absurd cc

  pub known_fault : (kind : FaultKind) → (if past then Err PastTime else r) ≡ Err kind → unless_fault past PastTime (turned (with_pending s) (due r)) ≡ Err (Fails kind)
  known_fault kind e = by past r e
    where
      by : (b : Bool) (r : OkOr PendingList FaultKind) → (if b then Err PastTime else r) ≡ Err kind → unless_fault b PastTime (turned (with_pending s) (due r)) ≡ Err (Fails kind)
      by true r e = cc
      by false (Ok p) e = absurd cc
      by false (Err k) e = cc

-- no statistic changes
pub scheduled_statistics : (t u : Times) (key : SortKey) (n : ℤ) (r : OkOr (Unit {0}) Refused) → HasScheduled key n t u r → u.histories.statistics ≡ t.histories.statistics
scheduled_statistics t u key n (Ok done) e = ap (λ (w : Times). w.histories.statistics) e.1
scheduled_statistics t u key n (Err (Fault kind)) e = ap (λ (w : Times). w.histories.statistics) e.1
scheduled_statistics t u key n (Err Memory) e = ap (λ (w : Times). w.histories.statistics) e.1

pub next_statistics : (t u : Times) (r : Option ℤ) → HasTakenNext t u r → u.histories.statistics ≡ t.histories.statistics
next_statistics t u None e = ap (λ (w : Times). w.histories.statistics) e.1
next_statistics t u (Some n) e = ap (λ (w : Times). w.histories.statistics) e.1
