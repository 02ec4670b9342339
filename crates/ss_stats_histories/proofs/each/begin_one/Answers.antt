use Rattle.std.proofs.Common.{◌≡◌, to_z, of_z, w64, sym, subst, arith}
use Rattle.ss_stats_histories.proofs.Common.{ints, IsUntil}
use Rattle.ss_stats_histories.proofs.Columns.{until_put, start_until}
use Rattle.ss_stats_histories.proofs.each.begin_one.Goals as goal

pub returns-then-is_home-clause-until : goal.returns-then-is_home-clause-until
returns-then-is_home-clause-until c =
    let n : to_z w64 (of_z w64 c.args.now) ≡ c.args.now = omega (arith, ints) in
    let u = rw n at c.begin.ensures.column in
    subst (IsUntil c.args.now) (sym u) (until_put c.args.now _ _ _ (start_until _ c.args.now c.requires.now) c.requires.until)
