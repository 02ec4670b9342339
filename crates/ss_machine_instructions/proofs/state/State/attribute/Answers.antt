use Rattle.std.proofs.Common.{rules, ◌≡◌, Ok, Err, ap}
use Rattle.ss_machine_instructions.proofs.Common.{as_value, Integer, is_due, MatchResult, on_after, value_in, Whole}
use Rattle.ss_code_instructions.specs.declared.instruction.Instruction.TheVariants.{Attribute as Runs}
use Rattle.ss_machine_instructions.proofs.Placing.{calm}
use Rattle.ss_machine_instructions.proofs.Delivering.{number_right}
use Rattle.ss_machine_instructions.proofs.Seeing.{whole_answer, mode_there, class_within}
use Rattle.ss_machine_instructions.proofs.Assigning.{attribute_in, attributes}
use Rattle.ss_machine_instructions.proofs.state.State.attribute.Goals as goal

pub number-entity-requires : goal.number-entity-requires
number-entity-requires c = let z = c.requires in attribute_in z.0 z.1 c.args.here c.args.self.now (Runs c.args.class c.args.field c.args.entity.now c.args.to.now) z.2 Integer c.args.class c.args.field c.args.entity.now c.args.to.now z.2.runs.carries

pub whole-answer-requires-clause-class : goal.whole-answer-requires-clause-class
whole-answer-requires-clause-class c =
    let z = c.requires in
    let there = mode_there z.0 z.1 c.args.here c.args.self.now (Runs c.args.class c.args.field c.args.entity.now c.args.to.now) z.2 c.args.class c.args.field Integer z.2.runs.carries.0 in
    let lt = class_within c.args.self.now.world.heap.layout.classes c.args.class c.args.field Integer there in
    search rules

pub whole-answer-requires-clause-mode : goal.whole-answer-requires-clause-mode
whole-answer-requires-clause-mode c =
    let z = c.requires in
    let there = mode_there z.0 z.1 c.args.here c.args.self.now (Runs c.args.class c.args.field c.args.entity.now c.args.to.now) z.2 c.args.class c.args.field Integer z.2.runs.carries.0 in
    search rules

pub put-requires : goal.put-requires
put-requires c =
    let z = c.requires in
    let found : MatchResult c.whole-answer.result (λ x. value_in c.args.self.now.world.heap c.args.class c.args.field c.number-entity.result ≡ Ok (Whole x)) (λ kind. value_in c.args.self.now.world.heap c.args.class c.args.field c.number-entity.result ≡ Err kind) = search rules in
    let e = whole_answer c.whole-answer.result (value_in c.args.self.now.world.heap c.args.class c.args.field c.number-entity.result) found in
    (z.0, z.1, z.2.placed.line, _, attributes z.0 z.1 c.args.here c.args.self.now (Runs c.args.class c.args.field c.args.entity.now c.args.to.now) z.2 Integer c.args.class c.args.field c.args.entity.now c.args.to.now c.number-entity.result (as_value c.whole-answer.result) z.2.runs.carries c.number-entity.ensures e (number_right c.whole-answer.result))

pub returns : goal.returns
returns c = λ w core r.
    let found : MatchResult c.whole-answer.result (λ x. value_in c.args.self.now.world.heap c.args.class c.args.field c.number-entity.result ≡ Ok (Whole x)) (λ kind. value_in c.args.self.now.world.heap c.args.class c.args.field c.number-entity.result ≡ Err kind) = search rules in
    let e = whole_answer c.whole-answer.result (value_in c.args.self.now.world.heap c.args.class c.args.field c.number-entity.result) found in
    let d = attributes w core c.args.here c.args.self.now (Runs c.args.class c.args.field c.args.entity.now c.args.to.now) r Integer c.args.class c.args.field c.args.entity.now c.args.to.now c.number-entity.result (as_value c.whole-answer.result) r.runs.carries c.number-entity.ensures e (number_right c.whole-answer.result) in
    calm w core c.args.here c.args.self.now (Runs c.args.class c.args.field c.args.entity.now c.args.to.now) r c.put.new.self (on_after c.args.here c.put.result) (ap is_due r.runs.carries.1.2.2) (c.put.ensures w core r.placed.line _ d)
