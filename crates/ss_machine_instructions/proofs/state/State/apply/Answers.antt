use Rattle.std.proofs.Common.{rules, ◌≡◌, ap}
use Rattle.ss_code_instructions.specs.declared.instruction.Instruction.TheVariants.{Unary as Runs}
use Rattle.ss_machine_instructions.proofs.Common.{computed_alone, is_due, on_after}
use Rattle.ss_machine_instructions.proofs.Placing.{calm}
use Rattle.ss_machine_instructions.proofs.Calculating.{applies_in, applies}
use Rattle.ss_machine_instructions.proofs.state.State.apply.Goals as goal

pub number-requires : goal.number-requires
number-requires c = let z = c.requires in applies_in z.0 z.1 c.args.here c.args.self.now (Runs c.args.operator c.args.of.now c.args.to.now) z.2 c.args.operator c.args.of.now c.args.to.now z.2.runs.carries

pub put-requires : goal.put-requires
put-requires c =
    let z = c.requires in
    let e : computed_alone c.args.operator c.number.result ≡ c.compute_alone-answer.result = search rules in
    (z.0, z.1, z.2.placed.line, _, applies z.0 z.1 c.args.here c.args.self.now (Runs c.args.operator c.args.of.now c.args.to.now) z.2 c.args.operator c.args.of.now c.args.to.now c.number.result c.compute_alone-answer.result z.2.runs.carries c.number.ensures e)

pub returns : goal.returns
returns c = λ w core r.
    let e : computed_alone c.args.operator c.number.result ≡ c.compute_alone-answer.result = search rules in
    let d = applies w core c.args.here c.args.self.now (Runs c.args.operator c.args.of.now c.args.to.now) r c.args.operator c.args.of.now c.args.to.now c.number.result c.compute_alone-answer.result r.runs.carries c.number.ensures e in
    calm w core c.args.here c.args.self.now (Runs c.args.operator c.args.of.now c.args.to.now) r c.put.new.self (on_after c.args.here c.put.result) (ap is_due r.runs.carries.2.2) (c.put.ensures w core r.placed.line _ d)
