use Rattle.std.proofs.Common.{◌≡◌, arith, to_z, of_z, w64, sym}
use Rattle.std.proofs.lemmas.Int.{ints}
use Rattle.ss_stats_histories.proofs.kept.Kept.refused.Goals as goal

pub is_full-requires : goal.is_full-requires
is_full-requires c =
    let n : to_z w64 (of_z w64 c.args.now) ≡ c.args.now = omega (arith, ints) in
    rw n (c.requires (to_z w64 (of_z w64 c.args.entity)) _ (sym c.in-Some.ensures))
