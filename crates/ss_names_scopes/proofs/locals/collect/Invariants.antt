use Rattle.std.proofs.Common.{◌≡◌, map, take}
use Rattle.std.specs.List.{flat_map}
use Rattle.ss_names_declarations.specs.NameTable.{first_entries}
use Rattle.ss_names_scopes.specs.Locals.{local_used, moded_in}
use Rattle.ss_names_scopes.proofs.locals.collect.Given as goal

abbrev pub invariant-loop-one : goal.invariant-loop-one
invariant-loop-one l = l.entries ≡ first_entries (map (moded_in l.names.usual l.modes) (flat_map (local_used l.names) (take l.one-index l.uses)))
