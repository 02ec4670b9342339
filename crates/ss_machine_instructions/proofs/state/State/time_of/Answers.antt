use Rattle.std.proofs.Common.{rules, ◌≡◌, ap}
use Rattle.ss_code_instructions.specs.declared.instruction.Instruction.TheVariants.{TimeOf as Runs}
use Rattle.ss_machine_instructions.proofs.Common.{is_due, on_after, time_in}
use Rattle.ss_machine_instructions.proofs.Placing.{calm}
use Rattle.ss_machine_instructions.proofs.Assigning.{time_of_in, times_of}
use Rattle.ss_machine_instructions.proofs.state.State.time_of.Goals as goal

pub number-notice-requires : goal.number-notice-requires
number-notice-requires c = let z = c.requires in time_of_in z.0 z.1 c.args.here c.args.self.now (Runs c.args.notice.now c.args.to.now) z.2 c.args.notice.now c.args.to.now z.2.runs.carries

pub put-requires : goal.put-requires
put-requires c =
    let z = c.requires in
    let e : time_in c.args.self.now.world.heap c.number-notice.result ≡ c.time_a-answer.result = search rules in
    (z.0, z.1, z.2.placed.line, _, times_of z.0 z.1 c.args.here c.args.self.now (Runs c.args.notice.now c.args.to.now) z.2 c.args.notice.now c.args.to.now c.number-notice.result c.time_a-answer.result z.2.runs.carries c.number-notice.ensures e)

pub returns : goal.returns
returns c = λ w core r.
    let e : time_in c.args.self.now.world.heap c.number-notice.result ≡ c.time_a-answer.result = search rules in
    let d = times_of w core c.args.here c.args.self.now (Runs c.args.notice.now c.args.to.now) r c.args.notice.now c.args.to.now c.number-notice.result c.time_a-answer.result r.runs.carries c.number-notice.ensures e in
    calm w core c.args.here c.args.self.now (Runs c.args.notice.now c.args.to.now) r c.put.new.self (on_after c.args.here c.put.result) (ap is_due r.runs.carries.2.2) (c.put.ensures w core r.placed.line _ d)
