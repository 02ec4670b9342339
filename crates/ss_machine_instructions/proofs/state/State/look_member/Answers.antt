use Rattle.std.proofs.Common.{rules, ◌≡◌, ap}
use Rattle.ss_code_instructions.specs.declared.instruction.Instruction.TheVariants.{LookMember as Runs}
use Rattle.ss_machine_instructions.proofs.Common.{joiner, no_value, on_after}
use Rattle.ss_machine_instructions.proofs.Looking.{member_in, member_set_in, looks_at_member}
use Rattle.ss_machine_instructions.proofs.state.State.look_member.Goals as goal

pub number-member-requires : goal.number-member-requires
number-member-requires c = let z = c.requires in member_in z.0 z.1 c.args.here c.args.self.now (Runs c.args.set c.args.member.now) z.2 c.args.set c.args.member.now z.2.runs.carries

pub look_member-answer-requires : goal.look_member-answer-requires
look_member-answer-requires c =
    let z = c.requires in
    let lt = member_set_in z.0 z.1 c.args.here c.args.self.now (Runs c.args.set c.args.member.now) z.2 c.args.set c.args.member.now z.2.runs.carries in
    record { set = search rules }

pub returns : goal.returns
returns c = λ w core r.
    let known : c.look_member-answer.result ≡ no_value (joiner c.args.self.now.world.heap c.args.set c.number-member.result) = search rules in
    looks_at_member w core c.args.here c.args.self.now (Runs c.args.set c.args.member.now) r c.args.set c.args.member.now c.number-member.result c.look_member-answer.result c.done.new.self (on_after c.args.here c.done.result) r.runs.carries c.number-member.ensures known c.done.ensures.state (ap (on_after c.args.here) c.done.ensures.way)
