-- What a schedule and a cancel answer, by the cases of their definitions.
use Rattle.std.proofs.Common.{◌≡◌, ◌≢◌, ◌==◌, ℤ, true, false, Ok, Err, arith}
use Rattle.ss_events.proofs.Common.{nat_tests, SortKey}
use Rattle.ss_base.specs.declared.fault.FaultKind.TheVariants.{NotScheduled}
use Rattle.ss_world.specs.PendingList.{PendingList, scheduling_limit, is_pending, without_notice, with_entry, scheduled, cancelled}

pub scheduled-room : (key : SortKey) (notice : ℤ) (p : PendingList) → is_pending notice p.entries ≡ false → p.schedulings ≢ scheduling_limit → scheduled key notice p ≡ Ok (with_entry key notice p)
scheduled-room key notice p t room = let f : (p.schedulings == scheduling_limit) ≡ false = grind (arith, nat_tests) in rw (t, f)

pub cancelled-pending : (notice : ℤ) (p : PendingList) → is_pending notice p.entries ≡ true → cancelled notice p ≡ Ok (record p { entries = without_notice notice p.entries })
cancelled-pending notice p t = rw t

pub cancelled-none : (notice : ℤ) (p : PendingList) → is_pending notice p.entries ≡ false → cancelled notice p ≡ Err NotScheduled
cancelled-none notice p t = rw t
