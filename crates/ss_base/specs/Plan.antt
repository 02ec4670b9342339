-- What a plan says of the next call of a reader or a writer over memory.
use Rattle.std.specs.Prelude.{ℕ, ◌-◌, Bool, ◌&&◌, nat_lt, nat_le, min, max, if◌then◌else◌, Option, Some, None}
use Rattle.ss_base.specs.declared.plan.Plan.{Plan}
use Rattle.ss_base.specs.declared.plan.Progress.{Progress}
use Rattle.ss_base.specs.Failures.{raised}

-- a plan before its first call
abbrev pub start_of_plan : Plan → Progress
start_of_plan plan = record { plan = plan; calls = 0; wrong = 0 }

-- whether the next call goes wrong: it is late enough, enough bytes were passed, and not enough calls went wrong yet
abbrev pub goes_wrong : Progress → ℕ → Bool
goes_wrong p passed = nat_lt p.wrong p.plan.times && nat_le p.plan.from_call (raised p.calls 1) && nat_le p.plan.after_bytes passed

-- the most bytes that a call passes that goes well: it stops where the calls begin to go wrong
abbrev pub most_bytes : Plan → ℕ → ℕ
most_bytes plan passed =
    if nat_lt passed plan.after_bytes
    then min (max plan.per_call 1) (plan.after_bytes - passed)
    else max plan.per_call 1

-- how many of so many bytes the next call passes, or none where it goes wrong
unfoldable pub bytes_passed : Progress → ℕ → ℕ → Option ℕ
bytes_passed p passed could = if goes_wrong p passed then None else Some (min could (most_bytes p.plan passed))

-- the plan after the next call
unfoldable pub after_call : Progress → ℕ → Progress
after_call p passed = record p {
  calls = raised p.calls 1;
  wrong = if goes_wrong p passed then raised p.wrong 1 else p.wrong;
}
