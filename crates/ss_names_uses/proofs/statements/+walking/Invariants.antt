use Rattle.std.proofs.Common.{◌≡◌, ◌++◌, map, take}
use Rattle.ss_names_uses.proofs.Common.{in_body, view_statement_tree}
use Rattle.ss_names_uses.proofs.statements.+walking.Given as goal

abbrev pub invariant-add_body-loop-statement : goal.invariant-add_body-loop-statement
invariant-add_body-loop-statement l = l.into.items ≡ l.initial.into.items ++ in_body (map view_statement_tree (take l.statement-index l.body))
