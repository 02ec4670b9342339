use Rattle.std.proofs.Common.{◌+◌, ◌∙◌, length, refl, ap, arith}
use Rattle.ss_machine_frames.specs.Rows.{TwoRows}
use Rattle.ss_machine_notices.proofs.Receiving.{none_received, one_received, all_received, longer}
use Rattle.ss_machine_notices.proofs.events.read_given.Goals as goal

pub loop-field-init : goal.loop-field-init
loop-field-init c = record { long = refl; most = omega arith; received = λ even. none_received c.args.world.now.heap c.args.what.class c.args.what.notice c.args.modes.now c.args.what.from c.args.rows.now }

pub read_one-requires : goal.read_one-requires
read_one-requires c = record {
  class = c.requires.class;
  mode = c.requires.modes c.loop-field.field c.given_mode.result c.given_mode.ensures;
  place = omega (arith, c.requires.places, c.loop-field-test.true, c.loop-field.invariant.long);
  small = omega (arith, c.requires.small, c.loop-field-test.true);
}

pub loop-field-preserved : goal.loop-field-preserved
loop-field-preserved c =
    let i = c.loop-field.field in let m = c.given_mode.result in
    let v = c.in-Ok.ensures in
    record {
      long = longer c.loop-field.rows c.read_one.new.rows (c.args.what.from + i) v.0 v.3 ∙ c.loop-field.invariant.long;
      most = omega (arith, c.loop-field-test.true);
      received = λ even.
          one_received c.args.world.now.heap c.args.what.class c.args.what.notice c.args.modes.now c.args.what.from c.args.rows.now i c.loop-field.rows c.read_one.new.rows m v.0 (c.loop-field.invariant.received even)
          c.given_mode.ensures even
          (omega (arith, c.requires.places, c.loop-field-test.true)) v.1 v.2 v.3;
    }

pub returns-in-Err : goal.returns-in-Err
returns-in-Err c = record {
  received = λ even. (c.loop-field.field, c.loop-field-test.true, c.in-Err.ensures.0);
  long = ap (λ (r : TwoRows). length r.numbers) c.in-Err.ensures.1 ∙ c.loop-field.invariant.long;
}

pub returns : goal.returns
returns c =
    let i = c.loop-field.field in
    record {
      received = λ even. all_received c.args.world.now.heap c.args.what.class c.args.what.notice c.args.modes.now c.args.what.from c.args.rows.now i c.loop-field.rows (c.loop-field.invariant.received even) (omega (arith, c.loop-field-test.false, c.loop-field.invariant.most));
      long = c.loop-field.invariant.long;
    }
