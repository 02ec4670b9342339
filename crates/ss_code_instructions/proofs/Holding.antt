-- An instruction holds at most four numbers or indices.
use Rattle.std.proofs.Common.{arith}
use Rattle.ss_code_instructions.specs.Instructions.{First}
use Rattle.ss_code_instructions.specs.Instructions as i
use Rattle.ss_code_instructions.specs.Laws.{HoldsFour}

pub holds_four : HoldsFour
holds_four (i.File First set x owner) = omega arith
holds_four (i.File _ set x owner) = omega arith
holds_four _ = omega arith
