use Rattle.std.proofs.Common.{◌≡◌, ◌++◌, take}
use Rattle.ss_names_uses.specs.Uses.{as_attribute, in_places}
use Rattle.ss_names_uses.proofs.handed.add_as_attributes.Given as goal

abbrev pub invariant-loop-place : goal.invariant-loop-place
invariant-loop-place l = l.into.items ≡ l.initial.into.items ++ in_places (as_attribute l.line l.class) 0 (take l.place l.names)
