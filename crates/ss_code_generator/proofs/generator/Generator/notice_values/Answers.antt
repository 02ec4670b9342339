use Rattle.std.proofs.Common.{◌≡◌, length, map, sym}
use Rattle.ss_code_generator.proofs.Common.{length-map, on_ok_weaker, view_expression, view_when}
use Rattle.ss_code_generator.proofs.Noticing.{values_timed, room_above}
use Rattle.ss_code_generator.proofs.Emitting.{both_ok}
use Rattle.ss_code_generator.proofs.generator.Generator.notice_values.Goals as goal

pub returns-clause-code : goal.returns-clause-code
returns-clause-code c =
    let many = sym (length-map c.args.given.now view_expression) in
    on_ok_weaker c.time.result (values_timed (map view_expression c.args.given.now) (view_when c.args.when.now) c.in_ok-values.ensures.code (rw many at c.in_ok-values.ensures.room) c.above.ensures.line (rw many at c.above.ensures.height)) c.time.ensures.code

pub returns-clause-room : goal.returns-clause-room
returns-clause-room c =
    both_ok c.time.result c.time.ensures.code c.time.ensures.room (λ m low fits. room_above c.args.site.height (length c.args.given.now) c.above.result.height c.values.new.self.deepest c.time.new.self.deepest c.in_ok-values.ensures.room c.above.ensures.height m.grows.depth low fits)
