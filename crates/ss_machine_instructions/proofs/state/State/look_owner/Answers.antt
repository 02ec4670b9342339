use Rattle.std.proofs.Common.{rules, ◌≡◌, ap}
use Rattle.ss_code_instructions.specs.declared.instruction.Instruction.TheVariants.{LookOwner as Runs}
use Rattle.ss_machine_instructions.proofs.Common.{no_value, on_after, owner}
use Rattle.ss_machine_instructions.proofs.Looking.{owner_in, owner_set_in, looks_at_owner}
use Rattle.ss_machine_instructions.proofs.state.State.look_owner.Goals as goal

pub number-owner-requires : goal.number-owner-requires
number-owner-requires c = let z = c.requires in owner_in z.0 z.1 c.args.here c.args.self.now (Runs c.args.set c.args.owner.now) z.2 c.args.set c.args.owner.now z.2.runs.carries

pub look_owner-answer-requires : goal.look_owner-answer-requires
look_owner-answer-requires c =
    let z = c.requires in
    let lt = owner_set_in z.0 z.1 c.args.here c.args.self.now (Runs c.args.set c.args.owner.now) z.2 c.args.set c.args.owner.now z.2.runs.carries in
    record { set = search rules }

pub returns : goal.returns
returns c = λ w core r.
    let known : c.look_owner-answer.result ≡ no_value (owner c.args.self.now.world.heap c.args.set c.number-owner.result) = search rules in
    looks_at_owner w core c.args.here c.args.self.now (Runs c.args.set c.args.owner.now) r c.args.set c.args.owner.now c.number-owner.result c.look_owner-answer.result c.done.new.self (on_after c.args.here c.done.result) r.runs.carries c.number-owner.ensures known c.done.ensures.state (ap (on_after c.args.here) c.done.ensures.way)
