use Rattle.std.proofs.Common.{◌≡◌, map, take}
use Rattle.ss_names_scopes.specs.Locals.{locals, uses_seen}
use Rattle.ss_names_scopes.proofs.locals.all_locals.Given as goal

abbrev pub invariant-loop-uses : goal.invariant-loop-uses
invariant-loop-uses l = l.found.items ≡ map (locals l.names) (map uses_seen (take l.uses-index l.all))
