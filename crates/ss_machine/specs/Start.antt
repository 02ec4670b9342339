-- The first state of a machine.
use Rattle.std.specs.Prelude.{ℕ, List}
use Rattle.ss_code.specs.Running.{Generated}
use Rattle.ss_code_instructions.specs.Running.{start}
use Rattle.ss_machine_instructions.specs.Doing.{Compiled}
use Rattle.ss_machine.specs.Situations.{Situation, IsCodeOf, IsRepresented}

-- the machine holds the first state, whatever input is handed to it
abbrev pub IsAtStart : Generated → Situation → Type 0
IsAtStart code at = (w : Compiled) → IsCodeOf code w → (input : List ℕ) → IsRepresented w (start w.code input 0).core at
