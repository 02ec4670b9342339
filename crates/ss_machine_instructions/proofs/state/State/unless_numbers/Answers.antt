use Rattle.std.proofs.Common.{rules, ◌≡◌, Some, refl}
use Rattle.ss_machine_instructions.proofs.Common.{comparing_numbers, Integer, on_if_at, only_number, place_at, related, Whole}
use Rattle.ss_machine_instructions.proofs.Comparing.{compares_in, compares}
use Rattle.ss_machine_instructions.proofs.Forms.{compared}
use Rattle.ss_machine_instructions.proofs.state.State.unless_numbers.Goals as goal

pub number-requires : goal.number-requires
number-requires c = let z = c.requires in (compares_in z.1.0 z.1.1 c.args.here c.args.self.now (comparing_numbers c.args.relation c.args.left.now c.args.right.now z.0) z.1.2 Integer c.args.relation c.args.left.now c.args.right.now z.0 (compared z.1.0.code z.1.0.run.constants z.1.2.placed c.args.relation c.args.left.now c.args.right.now z.0 z.1.2.runs.carries)).left

pub number-requires-2 : goal.number-requires-2
number-requires-2 c = let z = c.requires in (compares_in z.1.0 z.1.1 c.args.here c.args.self.now (comparing_numbers c.args.relation c.args.left.now c.args.right.now z.0) z.1.2 Integer c.args.relation c.args.left.now c.args.right.now z.0 (compared z.1.0.code z.1.0.run.constants z.1.2.placed c.args.relation c.args.left.now c.args.right.now z.0 z.1.2.runs.carries)).right

pub returns : goal.returns
returns c = λ skip w core r.
    let e : related c.args.relation (Whole c.number.result) (Whole c.number-2.result) ≡ Some c.are_numbers_related.result = search rules in
    compares w core c.args.here c.args.self.now (comparing_numbers c.args.relation c.args.left.now c.args.right.now skip) r Integer c.args.relation c.args.left.now c.args.right.now skip (Whole c.number.result) (Whole c.number-2.result) c.are_numbers_related.result (on_if_at c.args.here c.are_numbers_related.result skip) (compared w.code w.run.constants r.placed c.args.relation c.args.left.now c.args.right.now skip r.runs.carries) (only_number c.args.self.now.rows (place_at c.args.here.frame c.args.left.now) c.number.result c.number.ensures) (only_number c.args.self.now.rows (place_at c.args.here.frame c.args.right.now) c.number-2.result c.number-2.ensures) e refl
