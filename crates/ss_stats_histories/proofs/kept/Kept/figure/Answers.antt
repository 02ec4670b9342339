use Rattle.std.proofs.Common.{◌≡◌, arith, to_z, of_z, w64, sym}
use Rattle.std.proofs.lemmas.Int.{ints}
use Rattle.ss_stats_histories.proofs.kept.Kept.figure.Goals as goal

pub figure-requires : goal.figure-requires
figure-requires c =
    let n : to_z w64 (of_z w64 c.args.now) ≡ c.args.now = omega (arith, ints) in
    rw n (c.requires (to_z w64 (of_z w64 c.args.entity)) _ (sym c.in-Some.ensures))
