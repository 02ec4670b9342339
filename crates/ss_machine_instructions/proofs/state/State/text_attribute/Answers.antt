use Rattle.std.proofs.Common.{rules, ◌≡◌, Ok, Err, ap}
use Rattle.ss_machine_instructions.proofs.Common.{Alpha, as_text, is_due, MatchResult, on_after, Text, value_in}
use Rattle.ss_code_instructions.specs.declared.instruction.Instruction.TheVariants.{TextAttribute as Runs}
use Rattle.ss_machine_instructions.proofs.Placing.{calm}
use Rattle.ss_machine_instructions.proofs.Seeing.{text_answer, text_right, mode_there, class_within}
use Rattle.ss_machine_instructions.proofs.Assigning.{attribute_in, attributes}
use Rattle.ss_machine_instructions.proofs.state.State.text_attribute.Goals as goal

pub number-entity-requires : goal.number-entity-requires
number-entity-requires c = let z = c.requires in attribute_in z.0 z.1 c.args.here c.args.self.now (Runs c.args.class c.args.field c.args.entity.now c.args.to.now) z.2 Alpha c.args.class c.args.field c.args.entity.now c.args.to.now z.2.runs.carries

pub text-answer-requires-clause-class : goal.text-answer-requires-clause-class
text-answer-requires-clause-class c =
    let z = c.requires in
    let there = mode_there z.0 z.1 c.args.here c.args.self.now (Runs c.args.class c.args.field c.args.entity.now c.args.to.now) z.2 c.args.class c.args.field Alpha z.2.runs.carries.0 in
    let lt = class_within c.args.self.now.world.heap.layout.classes c.args.class c.args.field Alpha there in
    search rules

pub text-answer-requires-clause-mode : goal.text-answer-requires-clause-mode
text-answer-requires-clause-mode c =
    let z = c.requires in
    let there = mode_there z.0 z.1 c.args.here c.args.self.now (Runs c.args.class c.args.field c.args.entity.now c.args.to.now) z.2 c.args.class c.args.field Alpha z.2.runs.carries.0 in
    search rules

pub put_text-requires : goal.put_text-requires
put_text-requires c =
    let z = c.requires in
    let found : MatchResult c.text-answer.result (λ x. value_in c.args.self.now.world.heap c.args.class c.args.field c.number-entity.result ≡ Ok (Text x)) (λ kind. value_in c.args.self.now.world.heap c.args.class c.args.field c.number-entity.result ≡ Err kind) = search rules in
    let e = text_answer c.text-answer.result (value_in c.args.self.now.world.heap c.args.class c.args.field c.number-entity.result) found in
    (z.0, z.1, z.2.placed.line, _, attributes z.0 z.1 c.args.here c.args.self.now (Runs c.args.class c.args.field c.args.entity.now c.args.to.now) z.2 Alpha c.args.class c.args.field c.args.entity.now c.args.to.now c.number-entity.result (as_text c.text-answer.result) z.2.runs.carries c.number-entity.ensures e (text_right c.text-answer.result))

pub returns : goal.returns
returns c = λ w core r.
    let found : MatchResult c.text-answer.result (λ x. value_in c.args.self.now.world.heap c.args.class c.args.field c.number-entity.result ≡ Ok (Text x)) (λ kind. value_in c.args.self.now.world.heap c.args.class c.args.field c.number-entity.result ≡ Err kind) = search rules in
    let e = text_answer c.text-answer.result (value_in c.args.self.now.world.heap c.args.class c.args.field c.number-entity.result) found in
    let d = attributes w core c.args.here c.args.self.now (Runs c.args.class c.args.field c.args.entity.now c.args.to.now) r Alpha c.args.class c.args.field c.args.entity.now c.args.to.now c.number-entity.result (as_text c.text-answer.result) r.runs.carries c.number-entity.ensures e (text_right c.text-answer.result) in
    calm w core c.args.here c.args.self.now (Runs c.args.class c.args.field c.args.entity.now c.args.to.now) r c.put_text.new.self (on_after c.args.here c.put_text.result) (ap is_due r.runs.carries.1.2.2) (c.put_text.ensures w core r.placed.line _ d)
