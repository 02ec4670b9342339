use Rattle.std.proofs.Common.{map, sym}
use Rattle.ss_code_generator.proofs.Common.{length-map, on_ok_weaker, view_expression, view_place, view_when}
use Rattle.ss_code_generator.proofs.Noticing.{schedule_new_made}
use Rattle.ss_code_generator.proofs.generator.Generator.schedule_new.Goals as goal

pub returns : goal.returns
returns c =
    let many = sym (length-map c.args.given.now view_expression) in
    let class = c.in_ok-class.ensures in
    on_ok_weaker c.forget.result
    (schedule_new_made c.args.planned.class (view_place c.args.place.now) (map view_expression c.args.given.now) (view_when c.args.planned.when.now) c.in_ok-spot.spot c.in_ok-to.to c.in_ok-spot.ensures c.above-above.ensures.line (rw c.cells.ensures at c.above-above.ensures.height) c.in_ok-notice_values.ensures.code
    (rw many at c.in_ok-notice_values.ensures.room) c.in_ok-time.ensures.grows c.in_ok-time.ensures.at c.above-higher.ensures.line c.above-higher.ensures.height c.in_ok-to.ensures.grows c.in_ok-to.ensures.at (rw (class, c.in_ok-as_index.ensures, many) at c.in_ok-put.ensures) c.in_ok-place_of.ensures
    (rw many at c.is_given_watched.ensures) c.in_ok-name_notice.ensures (rw (class, c.notice_at.ensures) at c.in_ok-put-2.ensures)) (rw c.cells-2.ensures at c.forget.ensures)
