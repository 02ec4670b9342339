use Rattle.std.proofs.Common.{sym, ap}
use Rattle.ss_engine.specs.Refusals.{Reported}
use Rattle.ss_engine.proofs.refusal.Refusal.line.Goals as goal

pub returns : goal.returns
returns c = ap (λ (w : Reported). w.2) (sym c.words.ensures)
