use Rattle.std.proofs.Common.{rules, ap}
use Rattle.ss_machine_instructions.proofs.Common.{HasChanged, noted, OfVariable, on_after, pos, Whole}
use Rattle.ss_code_instructions.specs.declared.instruction.Instruction.TheVariants.{Keep as Runs}
use Rattle.ss_machine_instructions.proofs.Figuring.{keeps_in, kept_within, keeps}
use Rattle.ss_machine_instructions.proofs.state.State.keep.Goals as goal

pub number-value-requires : goal.number-value-requires
number-value-requires c = let z = c.requires in keeps_in z.0 z.1 c.args.here c.args.self.now (Runs c.args.from.now c.args.variable) z.2 c.args.variable c.args.from.now z.2.runs.carries

pub set_number_at-requires : goal.set_number_at-requires
set_number_at-requires c =
    let z = c.requires in
    let lt = kept_within z.0 z.1 c.args.here c.args.self.now (Runs c.args.from.now c.args.variable) z.2 c.args.variable c.args.from.now z.2.runs.carries in
    search rules

pub returns : goal.returns
returns c = λ w core r.
    let changed : HasChanged (noted (OfVariable c.args.variable) (pos 0) (Whole c.number-value.result)) c.args.self.now.world c.note_variable-answer.new.self c.note_variable-answer.result = search rules in
    keeps w core c.args.here c.args.self.now (Runs c.args.from.now c.args.variable) r c.args.variable c.args.from.now c.number-value.result c.note_variable-answer.new.self c.note_variable-answer.result c.done.new.self (on_after c.args.here c.done.result) r.runs.carries c.number-value.ensures changed (search rules) (ap (on_after c.args.here) c.done.ensures.way)
