use Rattle.std.proofs.Common.{◌≡◌, ℕ, ◌++◌, map, take}
use Rattle.ss_names_uses.proofs.Common.{in_places, in_value, view_expression_tree}
use Rattle.ss_names_uses.specs.declared.used.ModeOf.TheVariants as modes
use Rattle.ss_names_uses.proofs.handed.add_for_given.Given as goal

abbrev pub invariant-loop-place : goal.invariant-loop-place
invariant-loop-place l = l.into.items ≡ l.initial.into.items ++ in_places (λ (i : ℕ). in_value l.line (modes.Given l.routine i)) 0 (map view_expression_tree (take l.place l.values))
