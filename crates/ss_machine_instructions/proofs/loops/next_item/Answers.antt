use Rattle.std.proofs.Common.{rules, arith, ◌≡◌, ◌≤◌, ◌<ℤ◌, to_z, of_z, w64}
use Rattle.std.proofs.lemmas.Int.{ints}
use Rattle.ss_machine_instructions.proofs.Items.{far, within}
use Rattle.ss_machine_instructions.proofs.loops.next_item.Goals as goal

pub returns : goal.returns
returns c =
    let below : c.args.item <ℤ c.args.limit = first_of (search rules, omega (arith, ints)) in
    let same : to_z w64 (of_z w64 c.args.step) ≡ c.args.step = search rules in
    let le : of_z w64 c.args.step ≤ far c.args.limit c.args.item = first_of (search rules, omega arith) in
    within c.args.item c.args.step c.args.limit c.ranges.item c.ranges.step c.ranges.limit below le
