use Rattle.std.proofs.Common.{map, sym}
use Rattle.ss_code_generator.proofs.Common.{length-map, on_ok_weaker, view_expression, view_when}
use Rattle.ss_code_generator.proofs.Noticing.{schedule_made}
use Rattle.ss_code_generator.proofs.generator.Generator.schedule.Goals as goal

pub returns : goal.returns
returns c =
    let many = sym (length-map c.args.given.now view_expression) in
    let class = c.in_ok-class.ensures in
    on_ok_weaker c.put-2.result (schedule_made c.args.planned.class (map view_expression c.args.given.now) (view_when c.args.planned.when.now) c.in_ok-notice.ensures (rw class at c.in_ok-put.ensures) c.above-above.ensures.line c.above-above.ensures.height c.in_ok-notice_values.ensures.code
    (rw many at c.in_ok-notice_values.ensures.room) c.in_ok-place_of.ensures (rw many at c.is_given_watched.ensures)) (rw (class, c.in_ok-as_index.ensures, many) at c.put-2.ensures)
