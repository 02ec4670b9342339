-- A flush that was interrupted changed nothing.
use Rattle.std.specs.Io.KnownBytes.{Keeps}
use Rattle.simscript_order.proofs.retrying.flush_again.Given as goal

abbrev pub invariant-loop : goal.invariant-loop
invariant-loop g l = Keeps (g.W.Write.contents l.initial.writer) (g.W.Write.contents l.writer)
