use Rattle.std.proofs.Common.{rules, arith, ◌≤◌, length, ap, refl}
use Rattle.ss_machine_instructions.proofs.Common.{cleared_long, IsOutOfMemory, State, TwoRows}
use Rattle.ss_machine_instructions.proofs.Calling.{on_err, cleared_from}
use Rattle.ss_machine_instructions.proofs.state.State.enter.Goals as goal

pub returns-in_err-push-clause-err : goal.returns-in_err-push-clause-err
returns-in_err-push-clause-err c =
    let old = c.args.self.now in
    let new : State = record old { rows = c.clear.new.self; frames = c.push.new.self } in
    let grown = c.reach.ensures.grown in
    let is = c.clear.ensures in
    let long = ap (λ (r : TwoRows). length r.numbers) is in
    let longer : length old.rows.numbers ≤ length c.clear.new.self.numbers = first_of (search (cleared_from, grown, is), search (cleared_from, rules), omega (arith, long, grown.longer, cleared_long)) in
    let refused : IsOutOfMemory old new = record { ticks = refl; steps = refl; world = refl; longer = longer } in
    on_err (IsOutOfMemory old new) _ refused
