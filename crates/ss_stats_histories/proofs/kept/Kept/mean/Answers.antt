use Rattle.std.proofs.Common.{◌≡◌, arith, to_z, of_z, w64, sym}
use Rattle.std.proofs.lemmas.Int.{ints}
use Rattle.ss_stats_histories.proofs.kept.Kept.mean.Goals as goal

pub mean-requires : goal.mean-requires
mean-requires c =
    let n : to_z w64 (of_z w64 c.args.now) ≡ c.args.now = omega (arith, ints) in
    rw n (c.requires (to_z w64 (of_z w64 c.args.entity)) _ (sym c.in-Some.ensures))
