use Rattle.std.proofs.Common.{◌+◌, ◌≤◌, length, map, arith}
use Rattle.ss_code_generator.proofs.Common.{length-map, on_ok_weaker, view_expression, view_place}
use Rattle.ss_code_generator.proofs.Called.{called}
use Rattle.ss_code_generator.proofs.generator.Generator.call.Goals as goal

pub returns : goal.returns
returns c =
    let es = map view_expression c.args.given.now in
    let room : c.args.site.height + length es ≤ c.values.new.self.deepest = omega (arith, c.in_ok-values.ensures.room, length-map c.args.given.now view_expression) in
    on_ok_weaker c.gives.result (called c.args.site.line c.args.routine es (map view_place c.args.yielding.now) c.in_ok-values.ensures.code room c.in_ok-cell.ensures (rw c.in_ok-routine.ensures at c.in_ok-put.ensures)) c.gives.ensures
