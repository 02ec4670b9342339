-- A machine before its first step, and one that goes on.
use Rattle.std.proofs.Common.{◌≡◌, ℕ, ◌+◌, ◌-◌, ◌*◌, ◌≤◌, Bool, true, false, [], length, None, sym, ap, subst, arith}
use Rattle.ss_machine.proofs.Common.{first_here, Generated, HasShape, IsAtStart, IsFirstState, IsGenerated, left_from, left_in_calls, situated, slice_get, State, Stop, takes_tick_at}
use Rattle.ss_machine.specs.declared.stop.Stop.TheVariants.{Paused}
use Rattle.ss_code_instructions.specs.Running.{start}
use Rattle.ss_machine.proofs.Reaching.{made_of}
use Rattle.ss_machine.specs.Held.{IsReady, kept_after}

-- before the first step no call is open
none_open : (due : Bool) (n place calls : ℕ) → calls ≡ 0 → 0 + left_from due (n - place) calls ≤ 0 * (2 * n + 1) + n
none_open true n place calls e = omega (arith, e)
none_open false n place calls e = omega (arith, e)

pub first_ready : HasShape → (code : Generated) → IsGenerated code → (s : State) → IsFirstState code s → IsAtStart code (situated (first_here code) s) → IsReady (record { code = code; at = situated (first_here code) s; used = 0; steps = s.steps; stopped = None })
first_ready shape code made s first at =
    let m = made_of shape code made in
    let n = length code.run.instructions in
    record {
      made = record { least = omega arith; most = omega (arith, first.steps) };
      situated = λ e. (m.0, m.1, ((start m.0.code [] 0).core, at m.0 m.1 []));
      left = λ e. subst (λ k. k + left_from (takes_tick_at (slice_get code.run.instructions code.run.main.place)) (n - code.run.main.place) (left_in_calls n s.frames) ≤ 0 * (2 * n + 1) + n) (sym first.steps)
          (none_open (takes_tick_at (slice_get code.run.instructions code.run.main.place)) n code.run.main.place (left_in_calls n s.frames) (ap (left_in_calls n) first.frames));
    }

-- only after a pause the next run goes on
pub kept_none : (stop : Stop) → kept_after stop ≡ None → stop ≡ Paused
kept_none stop e = grind arith
