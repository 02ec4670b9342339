use Rattle.std.proofs.Common.{◌≡◌, length, to_z, of_z, w64, Ok, Err, sym, arith, refl}
use Rattle.std.proofs.lemmas.Int.{ints}
use Rattle.ss_stats_histories.proofs.OnePlace.{at_one, the_one}
use Rattle.ss_stats_histories.proofs.each.note_number.Goals as goal

-- the history takes the number
pub returns-in-None-clause-noted : goal.returns-in-None-clause-noted
returns-in-None-clause-noted c =
    let n : to_z w64 (of_z w64 c.args.now) ≡ c.args.now = omega (arith, ints) in
    let x : to_z w64 (of_z w64 c.args.entity) ≡ c.args.entity = omega (arith, ints) in
    let z : to_z w64 (of_z w64 c.args.number) ≡ c.args.number = omega (arith, ints) in
    let one : length c.args.places.now ≡ 1 = omega (arith, c.in-len1.len_at_least, c.in-len1.len_below) in
    let free = rw x at c.in-None.ensures.refused in
    let shown = rw (n, x, z) at c.note_here.ensures.shown in
    at_one c.args.entity c.args.now c.args.number c.args.kept.now c.note_here.new.kept _ c.args.places.now (Ok tt) (the_one c.args.places.now _ one refl) (sym free, shown)

-- or it takes none
pub returns-in-Some-clause-noted : goal.returns-in-Some-clause-noted
returns-in-Some-clause-noted c =
    let x : to_z w64 (of_z w64 c.args.entity) ≡ c.args.entity = omega (arith, ints) in
    let one : length c.args.places.now ≡ 1 = omega (arith, c.in-len1.len_at_least, c.in-len1.len_below) in
    let full = rw x at c.in-Some.ensures.refused in
    at_one c.args.entity c.args.now c.args.number c.args.kept.now c.note_here.new.kept _ c.args.places.now (Err c.in-Some.unnoted) (the_one c.args.places.now _ one refl) (sym full, c.in-Some.ensures.same)

pub returns-in_default-clause-noted : goal.returns-in_default-clause-noted
returns-in_default-clause-noted c =
    let n : to_z w64 (of_z w64 c.args.now) ≡ c.args.now = omega (arith, ints) in
    let x : to_z w64 (of_z w64 c.args.entity) ≡ c.args.entity = omega (arith, ints) in
    let z : to_z w64 (of_z w64 c.args.number) ≡ c.args.number = omega (arith, ints) in
    rw (n, x, z) at c.note_refusable.ensures.noted
