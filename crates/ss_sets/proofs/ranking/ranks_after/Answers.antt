use Rattle.std.proofs.Common.{rules, Less, Equal, Greater}
use Rattle.std.specs.Prelude.{false}
use Rattle.ss_sets.proofs.Common.{RankKey, to_z-of_z}
use Rattle.ss_sets.proofs.Keys.{by_key}
use Rattle.ss_sets.proofs.ranking.ranks_after.Goals as goal

pub returns-in-Less : goal.returns-in-Less
returns-in-Less c =
    let fy = c.ranges.y in let fx = c.ranges.x in let first : RankKey = record { field = 0; high = false } in
    by_key c.args.heap.now.state c.args.class c.loop-key.key-index c.args.keys.now first c.args.y c.args.x Less c.loop-key-test.true (search rules) (simp to_z-of_z at c.loop-key.invariant)

pub returns-in-Greater : goal.returns-in-Greater
returns-in-Greater c =
    let fy = c.ranges.y in let fx = c.ranges.x in let first : RankKey = record { field = 0; high = false } in
    by_key c.args.heap.now.state c.args.class c.loop-key.key-index c.args.keys.now first c.args.y c.args.x Greater c.loop-key-test.true (search rules) (simp to_z-of_z at c.loop-key.invariant)

pub loop-key-preserved : goal.loop-key-preserved
loop-key-preserved c =
    let fy = c.ranges.y in let fx = c.ranges.x in let first : RankKey = record { field = 0; high = false } in
    simp to_z-of_z (by_key c.args.heap.now.state c.args.class c.loop-key.key-index c.args.keys.now first c.args.y c.args.x Equal c.loop-key-test.true (search rules) (simp to_z-of_z at c.loop-key.invariant))
