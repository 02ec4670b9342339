use Rattle.std.proofs.Common.{refl, ap}
use Rattle.ss_machine_instructions.proofs.Common.{Alpha, is_due, on_after, only_text, place_at, Text}
use Rattle.ss_code_instructions.specs.declared.instruction.Instruction.TheVariants.{MoveText as Runs}
use Rattle.ss_machine_instructions.proofs.Placing.{calm}
use Rattle.ss_machine_instructions.proofs.Calculating.{moves_in, moves}
use Rattle.ss_machine_instructions.proofs.state.State.move_text.Goals as goal

pub text-text-requires : goal.text-text-requires
text-text-requires c = let z = c.requires in moves_in z.0 z.1 c.args.here c.args.self.now (Runs c.args.from.now c.args.to.now) z.2 Alpha c.args.from.now c.args.to.now z.2.runs.carries

pub put_text-requires : goal.put_text-requires
put_text-requires c =
    let z = c.requires in
    let only = only_text c.args.self.now.rows (place_at c.args.here.frame c.args.from.now) c.text-text.result c.text-text.ensures in
    (z.0, z.1, z.2.placed.line, _, moves z.0 z.1 c.args.here c.args.self.now (Runs c.args.from.now c.args.to.now) z.2 Alpha c.args.from.now c.args.to.now (Text c.text-text.result) z.2.runs.carries refl only)

pub returns : goal.returns
returns c = λ w core r.
    let only = only_text c.args.self.now.rows (place_at c.args.here.frame c.args.from.now) c.text-text.result c.text-text.ensures in
    let d = moves w core c.args.here c.args.self.now (Runs c.args.from.now c.args.to.now) r Alpha c.args.from.now c.args.to.now (Text c.text-text.result) r.runs.carries refl only in
    calm w core c.args.here c.args.self.now (Runs c.args.from.now c.args.to.now) r c.put_text.new.self (on_after c.args.here c.put_text.result) (ap is_due r.runs.carries.2.1.2) (c.put_text.ensures w core r.placed.line _ d)
