-- Instructions with their lines.
use Rattle.std.specs.Prelude.{List, [], map}
use Rattle.ss_base.specs.declared.line.Line.{Line}
use Rattle.ss_code_instructions.specs.declared.instruction.Instruction.{Instruction}
use Rattle.ss_code_pieces.specs.declared.piece.LinedInstruction.{LinedInstruction}

-- instructions one after another, each with its line
abbrev pub Lined : Type 0
Lined = List LinedInstruction

-- none
abbrev pub no_code : Lined
no_code = []

-- an instruction on a line
abbrev pub on_line : Line → Instruction → LinedInstruction
on_line l x = record { line = l; instruction = x }

-- the instructions alone, and their lines
abbrev pub instructions_in : Lined → List Instruction
instructions_in = map (λ x. x.instruction)

abbrev pub lines_in : Lined → List Line
lines_in = map (λ x. x.line)
