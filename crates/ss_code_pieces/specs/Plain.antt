-- Expressions that take no code.
use Rattle.std.specs.Prelude.{Option, Some, None}
use Rattle.ss_code_pieces.specs.declared.leaves.Leaf.{Leaf}
use Rattle.ss_code_pieces.specs.declared.leaves.Leaf.TheVariants as leaves
use Rattle.ss_code_instructions.specs.Instructions.{Operand, Constant, Held}

-- a constant or a variable as an operand
abbrev pub operand_of : Leaf → Operand
operand_of (leaves.Constant v) = Constant v
operand_of (leaves.Held x) = Held x

abbrev pub operand_if_any : Option Leaf → Option Operand
operand_if_any None = None
operand_if_any (Some x) = Some (operand_of x)
