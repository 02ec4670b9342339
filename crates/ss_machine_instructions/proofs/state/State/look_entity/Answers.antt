use Rattle.std.proofs.Common.{rules, ◌≡◌, ap}
use Rattle.ss_code_instructions.specs.declared.instruction.Instruction.TheVariants.{LookEntity as Runs}
use Rattle.ss_machine_instructions.proofs.Common.{known_in, on_after}
use Rattle.ss_machine_instructions.proofs.Looking.{entity_in, class_in, looks_at_entity}
use Rattle.ss_machine_instructions.proofs.state.State.look_entity.Goals as goal

pub number-entity-requires : goal.number-entity-requires
number-entity-requires c = let z = c.requires in entity_in z.0 z.1 c.args.here c.args.self.now (Runs c.args.class c.args.entity.now) z.2 c.args.class c.args.entity.now z.2.runs.carries

pub known-answer-requires : goal.known-answer-requires
known-answer-requires c =
    let z = c.requires in
    let lt = class_in z.0 z.1 c.args.here c.args.self.now (Runs c.args.class c.args.entity.now) z.2 c.args.class c.args.entity.now z.2.runs.carries in
    record { class = search rules }

pub returns : goal.returns
returns c = λ w core r.
    let known : c.known-answer.result ≡ known_in c.args.self.now.world.heap c.args.class c.number-entity.result = search rules in
    looks_at_entity w core c.args.here c.args.self.now (Runs c.args.class c.args.entity.now) r c.args.class c.args.entity.now c.number-entity.result c.known-answer.result c.done.new.self (on_after c.args.here c.done.result) r.runs.carries c.number-entity.ensures known c.done.ensures.state (ap (on_after c.args.here) c.done.ensures.way)
