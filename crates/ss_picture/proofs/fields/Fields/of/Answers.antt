use Rattle.std.proofs.Common.{arith}
use Rattle.ss_picture.proofs.Scan.{scan_start, step_past_field, field_ends}
use Rattle.ss_picture.proofs.fields.Fields.of.Goals as goal

pub loop-place-init : goal.loop-place-init
loop-place-init c = record { within = omega arith; scan = simp (c.new.ensures.items, c.new-2.ensures.items) (scan_start c.args.picture.now) }

pub overflow_add-place : goal.overflow_add-place
overflow_add-place c =
    omega (arith, field_ends c.loop-place.place c.args.picture.now c.first_field-shape.result c.loop-place-test.true c.first_field-shape.ensures)

pub loop-place-preserved-then-picture-place-eq42 : goal.loop-place-preserved-then-picture-place-eq42
loop-place-preserved-then-picture-place-eq42 c = record {
  within = field_ends c.loop-place.place c.args.picture.now c.first_field-shape.result c.loop-place-test.true c.first_field-shape.ensures;
  scan = simp (c.in_ok-add.ensures.starts, c.in_ok-add.ensures.shapes)
      (step_past_field _ _ c.loop-place.place c.args.picture.now c.first_field-shape.result c.loop-place-test.true c.if-picture-place-eq42.true c.first_field-shape.ensures c.loop-place.invariant.scan);
}
