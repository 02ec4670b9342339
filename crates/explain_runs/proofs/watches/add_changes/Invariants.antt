use Rattle.std.proofs.Common.{◌≡◌}
use Rattle.explain_runs.proofs.watches.add_changes.Given as goal

abbrev pub invariant-loop-watch : goal.invariant-loop-watch
invariant-loop-watch g l = l.session ≡ l.fn.session
