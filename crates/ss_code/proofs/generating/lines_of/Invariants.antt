use Rattle.std.proofs.Common.{◌≡◌, take}
use Rattle.ss_code_pieces.specs.Lined.{lines_in}
use Rattle.ss_code.proofs.generating.lines_of.Given as goal

abbrev pub invariant-loop-item : goal.invariant-loop-item
invariant-loop-item l = l.made.items ≡ lines_in (take l.item-index l.items)
