use Rattle.std.proofs.Common.{◌≡◌, ◌-◌, ◌^◌, ◌<◌, ◌≤◌, length, take, option_map}
use Rattle.ss_base.specs.Failures.{HasRisenBy}
use Rattle.ss_picture.specs.Sending.{HasSent, idle_before}
use Rattle.ss_picture.proofs.sink.Sink.write.Given as goal

abbrev pub invariant-loop-at : goal.invariant-loop-at
invariant-loop-at g l =
    record {
      within : l.at ≤ length l.bytes;
      sends : HasSent g.W.FaultyWrite.contents (record { writer = l.initial.self-inside.writer; sent = l.initial.self-inside.sent })
          (record { writer = l.self-inside.writer; sent = l.self-inside.sent }) (take l.at l.bytes);
      untouched : l.at ≡ 0 → l.self-inside ≡ l.initial.self-inside;
      small : l.self-inside.sent < 2 ^ 128;
      unfailed : g.W.FaultyWrite.errors l.self-inside.writer ≡ g.W.FaultyWrite.errors l.initial.self-inside.writer;
      idle : g.W.FaultyWrite.idle l.self-inside.writer ≡ option_map (idle_before l.at) (g.W.FaultyWrite.idle l.initial.self-inside.writer);
      risen : HasRisenBy 0 (g.W.Faulty.faults l.initial.self-inside.writer) (g.W.Faulty.faults l.self-inside.writer);
    }

abbrev pub decreases-loop-at : goal.decreases-loop-at
decreases-loop-at g l = length l.bytes - l.at
