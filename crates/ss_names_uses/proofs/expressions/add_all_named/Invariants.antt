use Rattle.std.proofs.Common.{◌≡◌, ◌++◌, map, take}
use Rattle.ss_names_uses.proofs.Common.{in_all_named, view_named}
use Rattle.ss_names_uses.proofs.expressions.add_all_named.Given as goal

abbrev pub invariant-loop-named : goal.invariant-loop-named
invariant-loop-named l = l.into.items ≡ l.initial.into.items ++ in_all_named l.line l.role (map view_named (take l.named-index l.all))
