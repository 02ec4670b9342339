use Rattle.std.proofs.Common.{◌≡◌, map, take}
use Rattle.ss_code_generator.proofs.Common.{running_kind, scope_for_modes, view_item}
use Rattle.ss_code_generator.proofs.generator.Generator.item_kinds.Given as goal

abbrev pub invariant-loop-item : goal.invariant-loop-item
invariant-loop-item l = l.kinds.items ≡ map (running_kind (scope_for_modes l.self.program.now l.self.locals.items)) (map view_item (take l.item-index l.items))
