use Rattle.std.proofs.Common.{◌≡◌, ◌++◌, map, take}
use Rattle.ss_names_uses.specs.Uses.{parameter_use}
use Rattle.ss_names_uses.proofs.sections.add_parameters.Given as goal

abbrev pub invariant-loop-name : goal.invariant-loop-name
invariant-loop-name l = l.into.items ≡ l.initial.into.items ++ map (parameter_use l.line) (take l.name-index l.names)
