-- Kinds of instructions: what a running instruction does, that of the definition does which it carries out.
use Rattle.std.proofs.Common.{◌≡◌, List, arith}
use Rattle.ss_machine.proofs.Common.{Code, does_read, does_write, Instruction, is_due, Placed, reads, takes_tick, Value, writes}
use Rattle.ss_code_instructions.specs.declared.instruction.Instruction.{Instruction as Running}
use Rattle.ss_code_instructions.specs.Carried.{IsCarriedOut}

pub record IsLike (x : Instruction) (i : Running) : Type 0 where
  pub due : is_due x ≡ takes_tick i
  pub reading : does_read x ≡ reads i
  pub writing : does_write x ≡ writes i

module _ (code : Code) (constants : List Value) (x : Placed) where
  pub is_like : (i : Running) → IsCarriedOut code constants x i → IsLike x.instruction i
  is_like i z = grind arith
