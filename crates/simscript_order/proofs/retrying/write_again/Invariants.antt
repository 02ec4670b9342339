-- A write that was interrupted left nothing.
use Rattle.std.specs.Io.KnownBytes.{Keeps}
use Rattle.simscript_order.proofs.retrying.write_again.Given as goal

abbrev pub invariant-loop : goal.invariant-loop
invariant-loop g l = Keeps (g.W.Write.contents l.initial.writer) (g.W.Write.contents l.writer)
