use Rattle.std.proofs.Common.{rules, ◌≡◌, ◌∷◌}
use Rattle.ss_code_instructions.specs.declared.instruction.Instruction.TheVariants.{Leave as Runs}
use Rattle.ss_machine_instructions.specs.Ways.{led}
use Rattle.ss_machine_instructions.proofs.Leading.{led_stopped, led_there}
use Rattle.ss_machine_instructions.proofs.Calling.{leaves_end, leaves, yields_within, leaves_with, leaves_without}
use Rattle.ss_machine_instructions.proofs.state.State.leave.Goals as goal

pub returns-in-None : goal.returns-in-None
returns-in-None c = λ w core r.
    leaves_end w core c.args.here c.args.self.now Runs r c.stop.new.self (led c.after.result) r.runs.carries (search rules) (search rules) (led_stopped c.on.result c.after.result c.stop.result c.after.ensures c.stop.ensures.none)

pub yield_values-requires-clause-within : goal.yield_values-requires-clause-within
yield_values-requires-clause-within c =
    let z = c.requires in
    let e : c.args.self.now.frames ≡ c.in-Some.frame ∷ c.pop.new.self = search rules in
    let v = leaves z.0 z.1 c.args.here c.args.self.now Runs z.2 c.in-Some.frame c.pop.new.self z.2.runs.carries e in
    yields_within z.0 z.1 c.args.here c.args.self.now Runs z.2 c.in-Some.frame c.pop.new.self v

pub yield_values-requires-clause-small : goal.yield_values-requires-clause-small
yield_values-requires-clause-small c = let z = c.requires in z.2.holds.held.small

pub returns-then-frame-eq0 : goal.returns-then-frame-eq0
returns-then-frame-eq0 c = λ w core r.
    let e : c.args.self.now.frames ≡ c.in-Some.frame ∷ c.pop.new.self = search rules in
    leaves_without w core c.args.here c.args.self.now Runs r c.in-Some.frame c.pop.new.self _ (led c.to.result) r.runs.carries e (search rules) (search rules) (led_there c.in-Some.frame.back c.in-Some.frame.caller c.to.result c.to.ensures)

pub returns-else-frame-eq0 : goal.returns-else-frame-eq0
returns-else-frame-eq0 c = λ w core r.
    let e : c.args.self.now.frames ≡ c.in-Some.frame ∷ c.pop.new.self = search rules in
    leaves_with w core c.args.here c.args.self.now Runs r c.in-Some.frame c.pop.new.self c.yield_values.new.self.rows c.yield_values.new.self (led c.to-in-Some.result) r.runs.carries e c.yield_values.ensures.rows (search rules) (led_there c.in-Some.frame.back c.in-Some.frame.caller c.to-in-Some.result c.to-in-Some.ensures)
