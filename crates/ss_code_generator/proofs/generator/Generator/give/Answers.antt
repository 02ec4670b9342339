use Rattle.ss_code_generator.proofs.Common.{on_ok_weaker, view_place}
use Rattle.ss_code_generator.proofs.Letting.{given_made}
use Rattle.ss_code_generator.proofs.generator.Generator.give.Goals as goal

pub returns : goal.returns
returns c =
    on_ok_weaker c.assign.result (given_made (view_place c.args.place.now) c.in_ok-spot.spot c.in_ok-from.from c.in_ok-from.ensures.grows c.in_ok-from.ensures.at c.in_ok-from.ensures.room c.above-above.ensures.line c.above-above.ensures.height c.in_ok-spot.ensures c.above.ensures.line (rw c.cells.ensures at c.above.ensures.height)) c.assign.ensures
