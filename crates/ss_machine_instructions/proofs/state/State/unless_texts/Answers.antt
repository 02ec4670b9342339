use Rattle.std.proofs.Common.{refl}
use Rattle.ss_machine_instructions.proofs.Common.{Alpha, on_if_at, only_text, place_at, Text}
use Rattle.ss_code_instructions.specs.declared.instruction.Instruction.TheVariants.{UnlessTexts as Runs}
use Rattle.ss_machine_instructions.proofs.Comparing.{compares_in, compares}
use Rattle.ss_machine_instructions.proofs.state.State.unless_texts.Goals as goal

pub text-requires : goal.text-requires
text-requires c = let z = c.requires in (compares_in z.1.0 z.1.1 c.args.here c.args.self.now (Runs c.args.left.now c.args.right.now z.0 c.args.relation) z.1.2 Alpha c.args.relation c.args.left.now c.args.right.now z.0 z.1.2.runs.carries).left

pub text-requires-2 : goal.text-requires-2
text-requires-2 c = let z = c.requires in (compares_in z.1.0 z.1.1 c.args.here c.args.self.now (Runs c.args.left.now c.args.right.now z.0 c.args.relation) z.1.2 Alpha c.args.relation c.args.left.now c.args.right.now z.0 z.1.2.runs.carries).right

pub returns : goal.returns
returns c = λ skip w core r.
    compares w core c.args.here c.args.self.now (Runs c.args.left.now c.args.right.now skip c.args.relation) r Alpha c.args.relation c.args.left.now c.args.right.now skip (Text c.text.result) (Text c.text-2.result) c.are_texts_related.result (on_if_at c.args.here c.are_texts_related.result skip) r.runs.carries (only_text c.args.self.now.rows (place_at c.args.here.frame c.args.left.now) c.text.result c.text.ensures) (only_text c.args.self.now.rows (place_at c.args.here.frame c.args.right.now) c.text-2.result c.text-2.ensures) c.are_texts_related.ensures refl
