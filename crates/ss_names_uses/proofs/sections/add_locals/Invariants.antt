use Rattle.std.proofs.Common.{◌≡◌, ◌++◌, map, take}
use Rattle.ss_names_uses.specs.Uses.{local_use}
use Rattle.ss_names_uses.proofs.sections.add_locals.Given as goal

abbrev pub invariant-loop-name : goal.invariant-loop-name
invariant-loop-name l = l.into.items ≡ l.initial.into.items ++ map (local_use l.line l.mode) (take l.name-index l.names)
