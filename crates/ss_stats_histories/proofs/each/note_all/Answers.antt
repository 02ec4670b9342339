use Rattle.std.proofs.Common.{rules, ◌≡◌, to_z, of_z, w64, arith}
use Rattle.std.proofs.lemmas.Int.{ints}
use Rattle.ss_stats_histories.proofs.each.note_all.Goals as goal

pub returns-in-Whole-clause-noted : goal.returns-in-Whole-clause-noted
returns-in-Whole-clause-noted c =
    let n : to_z w64 (of_z w64 c.args.now) ≡ c.args.now = omega (arith, ints) in
    let x : to_z w64 (of_z w64 c.args.entity) ≡ c.args.entity = omega (arith, ints) in
    let z : to_z w64 (of_z w64 c.in-Whole.number) ≡ c.in-Whole.number = search rules in
    rw c.in-Whole.is (rw (n, x, z) at c.note_number.ensures.noted)
