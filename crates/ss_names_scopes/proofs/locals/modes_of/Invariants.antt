use Rattle.std.proofs.Common.{◌≡◌, take}
use Rattle.ss_names_declarations.specs.NameTable.{first_entries}
use Rattle.ss_names_scopes.specs.Locals.{defined}
use Rattle.ss_names_scopes.proofs.locals.modes_of.Given as goal

abbrev pub invariant-loop-one : goal.invariant-loop-one
invariant-loop-one l = l.modes ≡ first_entries (defined (take l.one-index l.uses))
