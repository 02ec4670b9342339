use Rattle.std.proofs.Common.{rules, Option, ap}
use Rattle.ss_code_instructions.specs.declared.instruction.Instruction.TheVariants.{Figure as Runs}
use Rattle.ss_machine_instructions.proofs.Common.{figure, HasAnswer, HasValidSubject, is_due, IsReferenceToSubject, on_after, Value}
use Rattle.ss_machine_instructions.proofs.Placing.{calm}
use Rattle.ss_machine_instructions.proofs.Figuring.{figures_in, figures, has_subject}
use Rattle.ss_machine_world.specs.Seen as seen
use Rattle.ss_machine_instructions.proofs.state.State.figure.Goals as goal

pub number-entity-requires : goal.number-entity-requires
number-entity-requires c = let z = c.requires in figures_in z.0 z.1 c.args.here c.args.self.now (Runs c.args.statistic c.args.entity.now c.args.to.now c.args.fold) z.2 c.args.fold c.args.statistic c.args.entity.now c.args.to.now z.2.runs.carries

pub figure-answer-requires : goal.figure-answer-requires
figure-answer-requires c =
    let z = c.requires in
    let has : HasValidSubject c.args.self.now.world c.args.statistic = has_subject z.0 z.1 c.args.here c.args.self.now (Runs c.args.statistic c.args.entity.now c.args.to.now c.args.fold) z.2 c.args.statistic in
    record { subject = search rules }

pub put-requires : goal.put-requires
put-requires c =
    let z = c.requires in
    let looks : (o : Option Value) → IsReferenceToSubject c.args.self.now.world c.args.statistic o c.number-entity.result → HasAnswer (figure c.args.fold c.args.statistic o) c.args.self.now.world (seen.as_value c.figure-answer.result) = search rules in
    (z.0, z.1, z.2.placed.line, _, figures z.0 z.1 c.args.here c.args.self.now (Runs c.args.statistic c.args.entity.now c.args.to.now c.args.fold) z.2 c.args.fold c.args.statistic c.args.entity.now c.args.to.now c.number-entity.result c.figure-answer.result z.2.runs.carries c.number-entity.ensures looks)

pub returns : goal.returns
returns c = λ w core r.
    let looks : (o : Option Value) → IsReferenceToSubject c.args.self.now.world c.args.statistic o c.number-entity.result → HasAnswer (figure c.args.fold c.args.statistic o) c.args.self.now.world (seen.as_value c.figure-answer.result) = search rules in
    let d = figures w core c.args.here c.args.self.now (Runs c.args.statistic c.args.entity.now c.args.to.now c.args.fold) r c.args.fold c.args.statistic c.args.entity.now c.args.to.now c.number-entity.result c.figure-answer.result r.runs.carries c.number-entity.ensures looks in
    calm w core c.args.here c.args.self.now (Runs c.args.statistic c.args.entity.now c.args.to.now c.args.fold) r c.put.new.self (on_after c.args.here c.put.result) (ap is_due r.runs.carries.2.2) (c.put.ensures w core r.placed.line _ d)
