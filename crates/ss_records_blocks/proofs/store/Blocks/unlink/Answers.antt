use Rattle.std.proofs.Common.{◌+◌}
use Rattle.ss_records_blocks.proofs.WordKinds.{may_count}
use Rattle.ss_records_blocks.proofs.store.Blocks.unlink.Goals as goal

pub set_count-requires : goal.set_count-requires
set_count-requires c =
    let p = c.args.position.now.owner.at in let k = c.args.set + 2 in
    may_count c.hook-2.new.self.cells p k (c.hook-2.ensures.counters p k (c.hook.ensures.counters p k (c.relink-3.ensures.counters p k (c.relink-2.ensures.counters p k (c.relink.ensures.counters p k (rw c.expect.ensures.cells c.requires.owner.2))))))
