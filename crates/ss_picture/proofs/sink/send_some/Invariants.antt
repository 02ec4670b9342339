use Rattle.std.proofs.Common.{◌≡◌, ◌<◌}
use Rattle.std.specs.Io.KnownBytes.{Keeps}
use Rattle.ss_base.specs.Failures.{HasRisenBy}
use Rattle.ss_picture.specs.Sending.{counted_more}
use Rattle.ss_picture.proofs.sink.send_some.Given as goal

abbrev pub invariant-loop-attempt : goal.invariant-loop-attempt
invariant-loop-attempt g l = record {
  kept : Keeps (g.W.FaultyWrite.contents l.initial.writer) (g.W.FaultyWrite.contents l.writer);
  risen : HasRisenBy l.attempt (g.W.Faulty.faults l.initial.writer) (g.W.Faulty.faults l.writer);
  unfailed : g.W.FaultyWrite.errors l.writer ≡ g.W.FaultyWrite.errors l.initial.writer;
  begun : l.attempt ≡ 0 → g.W.FaultyWrite.idle l.writer ≡ g.W.FaultyWrite.idle l.initial.writer;
  idle : 0 < l.attempt → g.W.FaultyWrite.idle l.writer ≡ counted_more l.attempt (g.W.FaultyWrite.idle l.initial.writer);
}
