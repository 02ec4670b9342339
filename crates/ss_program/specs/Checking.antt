-- What a clause sees of a program that is well typed.
use Rattle.ss_program.specs.declared.sections.Program.{Program}

-- a checked program is seen as the program
abbrev pub checked_program : Program → Program
checked_program p = p
