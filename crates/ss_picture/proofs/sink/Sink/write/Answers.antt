use Rattle.std.proofs.Common.{◌≡◌, ◌∙◌, length, refl, ap, arith}
use Rattle.std.proofs.lemmas.List.{length-drop, take_rest}
use Rattle.ss_picture.proofs.Sent.{sends_nothing, sends_more}
use Rattle.ss_picture.proofs.Idle.{idle-unsent, idle-sent}
use Rattle.ss_picture.proofs.sink.Sink.write.Goals as goal

pub loop-at-init : goal.loop-at-init
loop-at-init g c = record {
  within = omega arith;
  sends = sends_nothing g.W.FaultyWrite.contents (record { writer = c.self.inside.writer; sent = c.self.inside.sent }) c.self.invariant;
  untouched = λ _. refl;
  small = c.self.invariant;
  unfailed = refl;
  idle = idle-unsent _;
  risen = omega arith;
}

pub loop-at-preserved : goal.loop-at-preserved
loop-at-preserved g c =
    let rest_is = take_rest c.args.bytes.now c.loop-at.at in
    let taken = c.in_ok-count.ensures.count in
    record {
      within = omega (arith, taken, ap length rest_is, length-drop c.loop-at.at c.args.bytes.now);
      sends =
          sends_more g.W.FaultyWrite.contents _ _ _ c.args.bytes.now _ c.loop-at.at c.in_ok-count.count c.loop-at.invariant.sends c.loop-at-test.true
          rest_is taken.1 c.in_ok-count.ensures.ok c.saturating_add-self-inside.ensures;
      untouched = λ none. absurd (omega (arith, none, taken));
      small = c.saturating_add-self-inside.type_inv;
      unfailed = c.in_ok-count.ensures.unfailed ∙ c.loop-at.invariant.unfailed;
      idle = idle-sent _ _ _ c.loop-at.at c.in_ok-count.count taken.0 c.loop-at.invariant.idle c.in_ok-count.ensures.taken;
      risen = omega (arith, c.loop-at.invariant.risen, c.send_some.ensures.never_falls);
    }

pub returns-clause-no_byte : goal.returns-clause-no_byte
returns-clause-no_byte g c =
    λ empty.
    let none : c.loop-at.at ≡ 0 = omega (arith, c.loop-at.invariant.within, ap length empty) in
    (refl, rw (c.loop-at.invariant.untouched none) c.self.view_is)
