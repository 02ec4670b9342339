use Rattle.std.proofs.Common.{rules, ◌≡◌, ap, false, true, refl}
use Rattle.ss_code_instructions.specs.declared.instruction.Instruction.TheVariants.{Turn as Runs}
use Rattle.ss_machine_instructions.proofs.Common.{is_due, on_after, on_at}
use Rattle.ss_machine_instructions.proofs.Ticking.{pauses, turns}
use Rattle.ss_machine_instructions.proofs.state.State.turn.Goals as goal

pub returns-then-not-has_taken_tick : goal.returns-then-not-has_taken_tick
returns-then-not-has_taken_tick c = λ w core r.
    let none : c.has_taken_tick.result ≡ false = search rules in
    let kept = c.has_taken_tick.ensures.none none in
    pauses w core c.args.here c.args.self.now Runs r c.stop.new.self (on_after c.args.here c.stop.result) (ap is_due r.runs.carries) kept.0 (search rules) (ap (on_after c.args.here) c.stop.ensures.none)

pub returns : goal.returns
returns c = λ w core r.
    let some : c.has_taken_tick.result ≡ true = search rules in
    let took = c.has_taken_tick.ensures.taken some in
    turns w core c.args.here c.args.self.now Runs r took.0 c.has_taken_tick.new.self (on_at c.args.here) r.runs.carries took.1 took.2 refl
