use Rattle.std.proofs.Common.{replicate}
use Rattle.ss_machine.proofs.Common.{Appends, HasRisenBy, line_end}
use Rattle.ss_machine.proofs.printing.send_empty.Given as goal

abbrev pub invariant-loop-line : goal.invariant-loop-line
invariant-loop-line g l = record {
  took : Appends (g.W.FaultyWrite.contents l.initial.sink.writer) (g.W.FaultyWrite.contents l.sink.writer) (replicate l._line line_end);
  risen : HasRisenBy 0 (g.W.Faulty.faults l.initial.sink.writer) (g.W.Faulty.faults l.sink.writer);
}
