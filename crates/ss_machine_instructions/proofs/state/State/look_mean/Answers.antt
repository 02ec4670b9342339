use Rattle.std.proofs.Common.{rules, Option, ap}
use Rattle.ss_code_instructions.specs.declared.instruction.Instruction.TheVariants.{LookMean as Runs}
use Rattle.ss_machine_instructions.proofs.Common.{HasAnswer, HasValidSubject, IsReferenceToSubject, mean, on_after, Value, without_value}
use Rattle.ss_machine_instructions.proofs.Figuring.{looks_in_mean, looks_at_mean, has_subject}
use Rattle.ss_machine_instructions.proofs.state.State.look_mean.Goals as goal

pub number-entity-requires : goal.number-entity-requires
number-entity-requires c = let z = c.requires in looks_in_mean z.0 z.1 c.args.here c.args.self.now (Runs c.args.statistic c.args.entity.now) z.2 c.args.statistic c.args.entity.now z.2.runs.carries

pub look_mean-answer-requires : goal.look_mean-answer-requires
look_mean-answer-requires c =
    let z = c.requires in
    let has : HasValidSubject c.args.self.now.world c.args.statistic = has_subject z.0 z.1 c.args.here c.args.self.now (Runs c.args.statistic c.args.entity.now) z.2 c.args.statistic in
    record { subject = search rules }

pub returns : goal.returns
returns c = λ w core r.
    let looks : (o : Option Value) → IsReferenceToSubject c.args.self.now.world c.args.statistic o c.number-entity.result → HasAnswer (without_value (mean c.args.statistic o)) c.args.self.now.world c.look_mean-answer.result = search rules in
    looks_at_mean w core c.args.here c.args.self.now (Runs c.args.statistic c.args.entity.now) r c.args.statistic c.args.entity.now c.number-entity.result c.look_mean-answer.result c.done.new.self (on_after c.args.here c.done.result) r.runs.carries c.number-entity.ensures looks c.done.ensures.state (ap (on_after c.args.here) c.done.ensures.way)
