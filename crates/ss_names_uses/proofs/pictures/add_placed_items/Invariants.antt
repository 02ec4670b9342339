use Rattle.std.proofs.Common.{◌≡◌, ◌++◌, map, take}
use Rattle.ss_names_uses.proofs.Common.{in_item_at, in_places, view_expression_tree}
use Rattle.ss_names_uses.proofs.pictures.add_placed_items.Given as goal

abbrev pub invariant-loop-place : goal.invariant-loop-place
invariant-loop-place l = l.into.items ≡ l.initial.into.items ++ in_places (in_item_at l.line l.fields) 0 (map view_expression_tree (take l.place l.items))
