use Rattle.std.proofs.Common.{◌≡◌, take}
use Rattle.ss_names.specs.Table.{subjects_by}
use Rattle.ss_names.proofs.entering.subjects_of.Given as goal

abbrev pub invariant-loop-name : goal.invariant-loop-name
invariant-loop-name l = l.subjects.items ≡ subjects_by l.meanings (take l.name-index l.names)
