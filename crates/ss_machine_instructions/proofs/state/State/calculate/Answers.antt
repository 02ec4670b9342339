use Rattle.std.proofs.Common.{rules, ◌≡◌, ap}
use Rattle.ss_machine_instructions.proofs.Common.{calculating, computed, is_due, on_after}
use Rattle.ss_machine_instructions.proofs.Placing.{calm}
use Rattle.ss_machine_instructions.proofs.Calculating.{calculates_in, calculates}
use Rattle.ss_machine_instructions.proofs.Forms.{calculated}
use Rattle.ss_machine_instructions.proofs.state.State.calculate.Goals as goal

pub number-requires : goal.number-requires
number-requires c = let z = c.requires in (calculates_in z.0 z.1 c.args.here c.args.self.now (calculating c.args.operator c.args.left.now c.args.right.now c.args.to.now) z.2 c.args.operator c.args.left.now c.args.right.now c.args.to.now (calculated z.0.code z.0.run.constants z.2.placed c.args.operator c.args.left.now c.args.right.now c.args.to.now z.2.runs.carries)).left

pub number-requires-2 : goal.number-requires-2
number-requires-2 c = let z = c.requires in (calculates_in z.0 z.1 c.args.here c.args.self.now (calculating c.args.operator c.args.left.now c.args.right.now c.args.to.now) z.2 c.args.operator c.args.left.now c.args.right.now c.args.to.now (calculated z.0.code z.0.run.constants z.2.placed c.args.operator c.args.left.now c.args.right.now c.args.to.now z.2.runs.carries)).right

pub put-requires : goal.put-requires
put-requires c =
    let z = c.requires in
    let e : computed c.args.operator c.number.result c.number-2.result ≡ c.compute-answer.result = search rules in
    (z.0, z.1, z.2.placed.line, _, calculates z.0 z.1 c.args.here c.args.self.now (calculating c.args.operator c.args.left.now c.args.right.now c.args.to.now) z.2 c.args.operator c.args.left.now c.args.right.now c.args.to.now c.number.result c.number-2.result c.compute-answer.result (calculated z.0.code z.0.run.constants z.2.placed c.args.operator c.args.left.now c.args.right.now c.args.to.now z.2.runs.carries) c.number.ensures c.number-2.ensures e)

pub returns : goal.returns
returns c = λ w core r.
    let e : computed c.args.operator c.number.result c.number-2.result ≡ c.compute-answer.result = search rules in
    let d = calculates w core c.args.here c.args.self.now (calculating c.args.operator c.args.left.now c.args.right.now c.args.to.now) r c.args.operator c.args.left.now c.args.right.now c.args.to.now c.number.result c.number-2.result c.compute-answer.result (calculated w.code w.run.constants r.placed c.args.operator c.args.left.now c.args.right.now c.args.to.now r.runs.carries) c.number.ensures c.number-2.ensures e in
    calm w core c.args.here c.args.self.now (calculating c.args.operator c.args.left.now c.args.right.now c.args.to.now) r c.put.new.self (on_after c.args.here c.put.result) (ap is_due (calculated w.code w.run.constants r.placed c.args.operator c.args.left.now c.args.right.now c.args.to.now r.runs.carries).2.2.2) (c.put.ensures w core r.placed.line _ d)
