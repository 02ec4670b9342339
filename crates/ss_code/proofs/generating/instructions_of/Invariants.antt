use Rattle.std.proofs.Common.{◌≡◌, take}
use Rattle.ss_code_pieces.specs.Lined.{instructions_in}
use Rattle.ss_code.proofs.generating.instructions_of.Given as goal

abbrev pub invariant-loop-item : goal.invariant-loop-item
invariant-loop-item l = l.made.items ≡ instructions_in (take l.item-index l.items)
