use Rattle.std.proofs.Common.{map, take}
use Rattle.ss_program.specs.View.{view_item}
use Rattle.ss_code_generator.proofs.Itemed.{MakesItems}
use Rattle.ss_code_generator.proofs.generator.Generator.items.Given as goal

abbrev pub invariant-loop-item : goal.invariant-loop-item
invariant-loop-item l = MakesItems l.initial.self l.self l.initial.code l.code l.fn.site l.here (map view_item (take l.item-index l.items))
