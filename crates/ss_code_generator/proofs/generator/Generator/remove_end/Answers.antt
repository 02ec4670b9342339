use Rattle.ss_code_generator.proofs.Common.{on_ok_weaker, view_owner, view_place}
use Rattle.ss_code_generator.proofs.Filed.{end_removed}
use Rattle.ss_code_generator.proofs.generator.Generator.remove_end.Goals as goal

pub returns : goal.returns
returns c =
    on_ok_weaker c.take.result
    (end_removed (view_place c.args.place.now) c.in_ok-spot.spot c.args.from.end c.args.from.set (view_owner c.args.owner.now) c.in_ok-to.to c.in_ok-spot.ensures c.above-above.ensures.line (rw c.cells.ensures at c.above-above.ensures.height) c.in_ok-owner.ensures c.in_ok-to.ensures.grows c.in_ok-to.ensures.at c.is_count_watched-noted.ensures
    (rw (c.remove_by.ensures, c.in_ok-set.ensures) at c.in_ok-put.ensures)) c.take.ensures
